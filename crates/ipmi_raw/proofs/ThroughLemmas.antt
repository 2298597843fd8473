-- The answers of a controller at the other end of a peer are also the answers of the controller over that peer.
use Rattle.std.proofs.Common.{◌≡◌, ℕ, ◌+◌, ◌<◌, ◌==◌, Bool, true, false, Option, Some, None, Result, Ok, Err, IsOk, MatchOption, List, length, drop, refl, sym, subst, ap, ◌∙◌}
use Rattle.ipmi_bus.specs.declared.code.Code.{Code}
use Rattle.ipmi_bus.specs.declared.code.CodeClass.{CodeClass}
use Rattle.ipmi_bus.specs.declared.code.CodeClass.TheVariants.{Busy, Cancelled, NotPresent, Refusal, SmallerPart}
use Rattle.ipmi_bus.specs.declared.controller.FruSize.{FruSize}
use Rattle.ipmi_bus.specs.declared.controller.Part.{Part}
use Rattle.ipmi_bus.specs.declared.controller.Shelf.{Shelf}
use Rattle.ipmi_bus.specs.declared.controller.Shelf.TheVariants.{Sdr, Sel}
use Rattle.ipmi_bus.specs.Counts.{Counts}
use Rattle.ipmi_bus.specs.Code.{class_of}
use Rattle.ipmi_bus.specs.Seen.{Seen, IsHonest, IsChange, StaysHonest, IsQuiet, IsTroubled, IsFinished, IsRefused, MayLoseReservation, current}
use Rattle.ipmi_bus.specs.Shelf.{Row, look, id_in}
use Rattle.ipmi_bus.specs.Store.{Store, rows_of, info_of, inventory_of, reading_of}
use Rattle.ipmi_bus.specs.Answers.{other, CountsPiece, FailsWith, PartFailsWith, reads_ahead, ReserveAnswers, Asked, GivesPiece, PartAnswers, ValueAnswers, SizeAnswers, BytesAnswers, not_present, part_asked}
use Rattle.ipmi_raw.specs.Controller.{seen_through}
use Rattle.ipmi_raw.specs.Answer.{CountsCalls, given, IsAnswer, data_in, first_in, part_in, reading_in, size_in, value_in}
use Rattle.ipmi_raw.specs.declared.request.Request.{Request}
use Rattle.ipmi_raw.specs.declared.request.Request.TheVariants.{DeviceId, Reserve, Get, Info, InventorySize, ReadInventory, Reading}

honest_behind : (s : Seen) (c : Counts) (lost : Bool) → IsHonest (seen_through s c lost) → IsHonest s × (lost ≡ false)
honest_behind s c false h = (record { said = h.said; store = h.store }, refl)
honest_behind s c true h =
    let both : false ≡ true = h.said in
    cc

abbrev through : Seen → Counts → Seen
through s c = seen_through s c false

stays : (s t : Seen) (c d : Counts) → StaysHonest s t → StaysHonest (through s c) (through t d)
stays s t c d h = record {
  honest = record { said = h.honest.said; store = h.honest.store };
  plain = h.plain;
  store = record { grows = h.store.grows; stays = h.store.stays; past = h.store.past };
  plain_store = h.plain_store;
}

change : (s t : Seen) (c d : Counts) → IsChange s t → IsChange (through s c) (through t d)
change s t c d h = record { stays = stays s t c d h.stays; one = h.one }

quiet : (s t : Seen) (c d : Counts) → IsQuiet s t → IsQuiet (through s c) (through t d)
quiet s t c d h = record {
  troubles = h.troubles;
  fresh_troubles = h.fresh_troubles;
  refusals = h.refusals;
  last_code = h.last_code;
}

troubled : (s t : Seen) (c d : Counts) → IsTroubled s t → IsTroubled (through s c) (through t d)
troubled s t c d h = record {
  troubles = h.troubles;
  fresh_troubles = h.fresh_troubles;
  refusals = h.refusals;
  last_code = h.last_code;
}

finished : (s t : Seen) (c d : Counts) → IsFinished s t → IsFinished (through s c) (through t d)
finished s t c d h = record {
  troubles = h.troubles;
  fresh_troubles = h.fresh_troubles;
  refusals = h.refusals;
  last_code = h.last_code;
}

refused : (code : ℕ) (s t : Seen) (c d : Counts) → IsRefused code s t → IsRefused code (through s c) (through t d)
refused code s t c d h = record {
  troubles = h.troubles;
  fresh_troubles = h.fresh_troubles;
  refusals = h.refusals;
  last_code = h.last_code;
}

same_current : (shelf : Shelf) (s : Seen) (c : Counts) → current shelf (through s c) ≡ current shelf s
same_current Sdr s c = refl
same_current Sel s c = refl

loses : (shelf : Shelf) (s t : Seen) (c d : Counts) → MayLoseReservation shelf s t
    → MayLoseReservation shelf (through s c) (through t d)
loses Sdr s t c d h = record { none_given = h.none_given; kept_over_change = h.kept_over_change; plain = h.plain }
loses Sel s t c d h = record { none_given = h.none_given; kept_over_change = h.kept_over_change; plain = h.plain }

counts : (whole : Bool) (s t : Seen) (c d : Counts) → CountsPiece whole s t → CountsPiece whole (through s c) (through t d)
counts true s t c d h = finished s t c d h
counts false s t c d h = quiet s t c d h

fails : (A B : Type 0) (class : CodeClass) (code : ℕ) (s t : Seen) (c d : Counts) → FailsWith A B class code s t
    → FailsWith A B class code (through s c) (through t d)
fails A B Cancelled code s t c d h = troubled s t c d h
fails A B Busy code s t c d h = troubled s t c d h
fails A B SmallerPart code s t c d h = (h.0, quiet s t c d h.1)
fails A B NotPresent code s t c d h = (h.0, finished s t c d h.1)
fails A B Refusal code s t c d h = refused code s t c d h

part_fails : (ahead : Bool) (A B : Type 0) (class : CodeClass) (code : ℕ) (s t : Seen) (c d : Counts)
    → PartFailsWith ahead A B class code s t → PartFailsWith ahead A B class code (through s c) (through t d)
part_fails ahead A B Cancelled code s t c d h = fails A B Cancelled code s t c d h
part_fails ahead A B Busy code s t c d h = fails A B Busy code s t c d h
part_fails ahead A B SmallerPart code s t c d h = fails A B SmallerPart code s t c d h
part_fails ahead A B NotPresent code s t c d h = fails A B NotPresent code s t c d h
part_fails true A B Refusal code s t c d h = quiet s t c d h
part_fails false A B Refusal code s t c d h = refused code s t c d h

reserve : (shelf : Shelf) (result : Result ℕ Code) (s t : Seen) (c d : Counts) → ReserveAnswers shelf result s t
    → ReserveAnswers shelf result (through s c) (through t d)
reserve shelf (Ok r) s t c d h = record {
  change = change s t c d h.change;
  gives = (quiet s t c d h.gives.0, same_current shelf t d ∙ h.gives.1);
  beside = loses (other shelf) s t c d h.beside;
  plain = h.plain;
}
reserve shelf (Err code) s t c d h = record {
  change = change s t c d h.change;
  gives = (fails ⊥ ⊥ (class_of code.0) code.0 s t c d h.gives.0, loses shelf s t c d h.gives.1);
  beside = loses (other shelf) s t c d h.beside;
  plain = h.plain;
}

gives_piece : (ask : Asked) (part : Part) (into : List ℕ) (s t : Seen) (c d : Counts) (row : Row)
    → GivesPiece ask part into s t row → GivesPiece ask part into (through s c) (through t d) row
gives_piece ask part into s t c d row h = record {
  found = h.found;
  piece = h.piece;
  next = h.next;
  reserved = λ past. same_current ask.shelf t d ∙ h.reserved past;
  counts = counts (ask.offset + part.got == length row.bytes) s t c d h.counts;
}

-- the duty of a plain controller for a part
abbrev OwesPart : Asked → Result Part Code → Seen → Type 0
OwesPart ask result s = MatchOption (look (rows_of ask.shelf s.store) ask.id) (result ≡ Err not_present)
    (λ row. ask.offset < length row.bytes
    → (0 < ask.offset → current ask.shelf s ≡ Some ask.reservation) → IsOk result)

owes_part : (ask : Asked) (result : Result Part Code) (s : Seen) (c : Counts) → OwesPart ask result s
    → OwesPart ask result (through s c)
owes_part ask result s c owes = rw (same_current ask.shelf s c) owes

part : (ask : Asked) (result : Result Part Code) (into : List ℕ) (s t : Seen) (c d : Counts)
    → PartAnswers ask result into s t → PartAnswers ask result into (through s c) (through t d)
part ask (Ok given) into s t c d h = record {
  change = change s t c d h.change;
  gives = (h.gives.0, gives_piece ask given into s t c d h.gives.0 h.gives.1);
  keeps = loses ask.shelf s t c d h.keeps;
  beside = loses (other ask.shelf) s t c d h.beside;
  plain = λ is. owes_part ask (Ok given) s c (h.plain is);
}
part ask (Err code) into s t c d h = record {
  change = change s t c d h.change;
  gives = part_fails (reads_ahead ask.shelf ask.offset ask.len) (1 < ask.len) (look (rows_of ask.shelf t.store) ask.id ≡ None) (class_of code.0) code.0 s t c d h.gives;
  keeps = loses ask.shelf s t c d h.keeps;
  beside = loses (other ask.shelf) s t c d h.beside;
  plain = λ is. owes_part ask (Err code) s c (h.plain is);
}

value : {V : Type 0} (of : Store → Option V) (result : Result V Code) (s t : Seen) (c d : Counts)
    → ValueAnswers of result s t → ValueAnswers of result (through s c) (through t d)
value of (Ok v) s t c d h = record {
  change = change s t c d h.change;
  gives = (h.gives.0, finished s t c d h.gives.1);
  sdr = loses Sdr s t c d h.sdr;
  sel = loses Sel s t c d h.sel;
  plain = h.plain;
}
value of (Err code) s t c d h = record {
  change = change s t c d h.change;
  gives = fails ⊥ (of t.store ≡ None) (class_of code.0) code.0 s t c d h.gives;
  sdr = loses Sdr s t c d h.sdr;
  sel = loses Sel s t c d h.sel;
  plain = h.plain;
}

size : (id : ℕ) (result : Result FruSize Code) (s t : Seen) (c d : Counts)
    → SizeAnswers id result s t → SizeAnswers id result (through s c) (through t d)
size id (Ok given) s t c d h = record {
  change = change s t c d h.change;
  gives = (h.gives.0, h.gives.1, h.gives.2, h.gives.3, counts (length h.gives.0 == 0) s t c d h.gives.4);
  sdr = loses Sdr s t c d h.sdr;
  sel = loses Sel s t c d h.sel;
  plain = h.plain;
}
size id (Err code) s t c d h = record {
  change = change s t c d h.change;
  gives = fails ⊥ (inventory_of id t.store ≡ None) (class_of code.0) code.0 s t c d h.gives;
  sdr = loses Sdr s t c d h.sdr;
  sel = loses Sel s t c d h.sel;
  plain = h.plain;
}

bytes : (id offset asked : ℕ) (result : Result ℕ Code) (into : List ℕ) (s t : Seen) (c d : Counts)
    → BytesAnswers id offset asked result into s t → BytesAnswers id offset asked result into (through s c) (through t d)
bytes id offset asked (Ok got) into s t c d h = record {
  change = change s t c d h.change;
  gives = (h.gives.0, h.gives.1, h.gives.2, counts (offset + got == length h.gives.0) s t c d h.gives.3);
  sdr = loses Sdr s t c d h.sdr;
  sel = loses Sel s t c d h.sel;
  plain = h.plain;
}
bytes id offset asked (Err code) into s t c d h = record {
  change = change s t c d h.change;
  gives = fails (1 < asked) (inventory_of id t.store ≡ None) (class_of code.0) code.0 s t c d h.gives;
  sdr = loses Sdr s t c d h.sdr;
  sel = loses Sel s t c d h.sel;
  plain = h.plain;
}

answer : (request : Request) (result : Result (List ℕ) Code) (s t : Seen) (c d : Counts)
    → IsAnswer request result s t → IsAnswer request result (seen_through s c false) (seen_through t d false)
answer DeviceId result s t c d h = (h.0, ap (λ x. through x d) h.1)
answer (Reserve shelf) result s t c d h = reserve shelf (value_in id_in result) s t c d h
answer (Get piece) result s t c d h =
    part (part_asked piece.shelf piece.reservation piece.id piece.offset piece.count) (value_in part_in result)
    (drop 2 (data_in result)) s t c d h
answer (Info shelf) result s t c d h = value (info_of shelf) (value_in (λ xs. xs) result) s t c d h
answer (InventorySize id) result s t c d h = size id (value_in size_in result) s t c d h
answer (ReadInventory piece) result s t c d h =
    bytes piece.id piece.offset piece.count (value_in first_in result) (drop 1 (data_in result)) s t c d h
answer (Reading lun number) result s t c d h = value (reading_of lun number) (value_in reading_in result) s t c d h

pub answered : (request : Request) (result : Result (List ℕ) Code) (s t : Seen) (c d : Counts) (was is : Bool)
    → (IsHonest s → IsAnswer request result s t) → is ≡ was → IsHonest (seen_through s c was)
    → IsAnswer request result (seen_through s c was) (seen_through t d is)
answered request result s t c d was is h same honest =
    let behind = honest_behind s c was honest in
    rw same (rw behind.1 (answer request result s t c d (h behind.0)))

-- ---- a request after it

abbrev own_counts : Seen → Counts
own_counts s = record {
  calls = s.calls;
  most_asked = s.most_asked;
  last_asked = s.last_asked;
  last_failure = s.last_failure;
  troubles = 0;
  fresh_troubles = 0;
  refusals = 0;
  last_code = 0;
  stores_added = 0;
}

-- what an honest controller answered it may have answered too if only calls were counted since
pub answered_before : (request : Request) (result : Result (List ℕ) Code) (s t u : Seen) → IsAnswer request result s t → CountsCalls t u
    → IsAnswer request result s u
answered_before request result s t u h later =
    subst (λ (x : Seen). IsAnswer request result s x) (sym later) (answer request result s t (own_counts s) (own_counts u) h)

pub still_honest : (request : Request) (result : Result (List ℕ) Code) (s t : Seen) → IsHonest s → IsAnswer request result s t
    → IsHonest t
still_honest DeviceId result s t honest h = rw h.1 (record { said = honest.said; store = honest.store })
still_honest (Reserve shelf) result s t honest h = h.change.stays.honest
still_honest (Get part) result s t honest h = h.change.stays.honest
still_honest (Info shelf) result s t honest h = h.change.stays.honest
still_honest (InventorySize id) result s t honest h = h.change.stays.honest
still_honest (ReadInventory part) result s t honest h = h.change.stays.honest
still_honest (Reading lun number) result s t honest h = h.change.stays.honest
