-- An answer after the effect of a mood, and an answer by a mood.
use Rattle.std.proofs.Common.{◌≡◌, ℕ, ◌+◌, ◌-◌, drop, ap, Bool, true, false, Option, Result, Ok, Err, List, [], refl, sym, ◌∙◌, arith, IsTrue, true≢false, MatchResult}
use Rattle.std.specs.Vec.Iter.{into_iter_deque, into_iter_items, into_iter_len}
use Rattle.std.proofs.lemmas.List.{drop-drop, nil_from_length}
use Rattle.ipmi_image.specs.Below.{Shelf, Sdr, Sel, Part, FruSize, Code, CodeClass, Cancelled, Busy, SmallerPart, NotPresent, Refusal, class_of, Store, Seen, held, IsHonest, IsQuiet, IsFinished, IsChange, MayLoseReservation, current, Asked, other, FailsWith, PartFailsWith, CountsPiece, ReserveAnswers, PartAnswers, ValueAnswers, SizeAnswers, BytesAnswers}
use Rattle.ipmi_image.specs.declared.scripted.Turn.{Turn}
use Rattle.ipmi_image.specs.Prelude.{Turns, Responder, Scripted, seen_as}

-- if the number of moods is 0, none is left
pub no_moods_left : (s : Scripted) → into_iter_len s.moods ≡ 0 → into_iter_items s.moods ≡ []
no_moods_left s none = nil_from_length _ (sym (into_iter_deque s.moods).ok.0 ∙ none)

-- an honest controller is still honest if it claims to be plain; then its answers promise more
pub plainly : (r : Responder) → IsHonest (seen_as false r) → IsHonest (seen_as true r)
plainly r honest = record { said = honest.said; store = honest.store }

-- the answer of a plain controller after a turn is an answer of a controller that is not plain, over the turn and the answer
module _ {asked most : ℕ} {ahead : Bool} (old : Seen) (r r' : Responder) (plain : old.plain ≡ false)
    (first : Turns asked ahead (Turn.Answers most) old (seen_as false r))
    (change : IsChange (seen_as true r) (seen_as true r')) where
  abbrev mid : Seen
  mid = seen_as true r

  abbrev answered : Seen
  answered = seen_as true r'

  abbrev new : Seen
  new = seen_as false r'

  same : new.stores_added ≡ mid.stores_added
  same = change.stays.plain_store refl

  calm : IsQuiet old (seen_as false r)
  calm = first.gives

  quiet : IsQuiet mid answered → IsQuiet old new
  quiet q = let c = calm in omega arith

  finished : IsFinished mid answered → IsFinished old new
  finished q = let c = calm in omega arith

  piece : (b : Bool) → CountsPiece b mid answered → CountsPiece b old new
  piece true h = finished h
  piece false h = quiet h

  fails : (P Q : Type 0) (class : CodeClass) (code : ℕ) → FailsWith P Q class code mid answered
      → FailsWith P Q class code old new
  fails P Q Cancelled code q = let c = calm in omega arith
  fails P Q Busy code q = let c = calm in omega arith
  fails P Q SmallerPart code h = (h.0, quiet h.1)
  fails P Q NotPresent code h = (h.0, finished h.1)
  fails P Q Refusal code q = let c = calm in omega arith

  not_plain : {A : Type 0} → IsTrue old.plain → A
  not_plain {A} h = absurd (true≢false (sym h ∙ plain))

  changed : IsChange old new
  changed = record {
    stays = record {
      honest = record { said = refl; store = change.stays.honest.store };
      plain = λ p. not_plain p;
      store = record {
        grows = let s = same in omega (arith, s, first.change.stays.store.grows);
        stays = λ e. change.stays.store.stays same ∙ first.change.stays.store.stays (sym same ∙ e);
        past = let s = same in ap (λ (n : ℕ). drop n (held new)) {y = answered.stores_added - mid.stores_added + (mid.stores_added - old.stores_added)} (omega (arith, s, first.change.stays.store.grows))
            ∙ sym (drop-drop (mid.stores_added - old.stores_added) (answered.stores_added - mid.stores_added) (held new))
            ∙ ap (drop (mid.stores_added - old.stores_added)) change.stays.store.past ∙ first.change.stays.store.past;
      };
      plain_store = λ p. not_plain p;
    };
    one = let s = same in omega (arith, s, first.change.one);
  }

  reserved : (shelf : Shelf) → current shelf answered ≡ current shelf new
  reserved Sdr = refl
  reserved Sel = refl

  loses : (shelf : Shelf) → MayLoseReservation shelf mid answered → MayLoseReservation shelf old new
  loses Sdr b = record {
    none_given = λ r e. first.sdr.none_given r (b.none_given r e);
    kept_over_change = λ more number e. rw (change.stays.store.stays same) (first.sdr.kept_over_change (let s = same in omega (arith, more, s)) number (sym (b.plain refl) ∙ e));
    plain = λ p. not_plain p;
  }
  loses Sel b = record {
    none_given = λ r e. first.sel.none_given r (b.none_given r e);
    kept_over_change = λ more number e. rw (change.stays.store.stays same) (first.sel.kept_over_change (let s = same in omega (arith, more, s)) number (sym (b.plain refl) ∙ e));
    plain = λ p. not_plain p;
  }

  given : {V : Type 0} {Gave Gives : V → Type 0} (P Q : Type 0) (result : Result V Code)
      → ((v : V) → Gave v → Gives v)
      → MatchResult result Gave (λ code. FailsWith P Q (class_of code.0) code.0 mid answered)
      → MatchResult result Gives (λ code. FailsWith P Q (class_of code.0) code.0 old new)
  given P Q (Ok v) goes gave = goes v gave
  given P Q (Err code) goes gave = fails P Q (class_of code.0) code.0 gave

  part_fails : (reads : Bool) (P Q : Type 0) (class : CodeClass) (code : ℕ)
      → PartFailsWith reads P Q class code mid answered → PartFailsWith reads P Q class code old new
  part_fails reads P Q Cancelled code h = fails P Q Cancelled code h
  part_fails reads P Q Busy code h = fails P Q Busy code h
  part_fails reads P Q SmallerPart code h = fails P Q SmallerPart code h
  part_fails reads P Q NotPresent code h = fails P Q NotPresent code h
  part_fails true P Q Refusal code h = quiet h
  part_fails false P Q Refusal code h = fails P Q Refusal code h

  part_given : {V : Type 0} {Gave Gives : V → Type 0} (reads : Bool) (P Q : Type 0) (result : Result V Code)
      → ((v : V) → Gave v → Gives v)
      → MatchResult result Gave (λ code. PartFailsWith reads P Q (class_of code.0) code.0 mid answered)
      → MatchResult result Gives (λ code. PartFailsWith reads P Q (class_of code.0) code.0 old new)
  part_given reads P Q (Ok v) goes gave = goes v gave
  part_given reads P Q (Err code) goes gave = part_fails reads P Q (class_of code.0) code.0 gave

  pub after_reserve : (shelf : Shelf) (number : ℕ) → ReserveAnswers shelf (Ok number) mid answered
      → ReserveAnswers shelf (Ok number) old new
  after_reserve shelf number a = record {
    change = changed;
    gives = (quiet a.gives.0, sym (reserved shelf) ∙ a.gives.1);
    beside = loses (other shelf) a.beside;
    plain = λ p. not_plain p;
  }

  pub after_part : (ask : Asked) (result : Result Part Code) (into : List ℕ)
      → PartAnswers ask result into mid answered → PartAnswers ask result into old new
  after_part ask result into a = record {
    change = changed;
    gives = part_given _ _ _ result
        (λ part g. (
          g.0,
          record {
            found = g.1.found;
            piece = g.1.piece;
            next = g.1.next;
            reserved = λ some. sym (reserved ask.shelf) ∙ g.1.reserved some;
            counts = piece _ g.1.counts;
          },
        )) a.gives;
    keeps = loses ask.shelf a.keeps;
    beside = loses (other ask.shelf) a.beside;
    plain = λ p. not_plain p;
  }

  pub after_value : {V : Type 0} (value : Store → Option V) (result : Result V Code)
      → ValueAnswers value result mid answered → ValueAnswers value result old new
  after_value value result a = record {
    change = changed;
    gives = given _ _ result (λ v g. (g.0, finished g.1)) a.gives;
    sdr = loses Sdr a.sdr;
    sel = loses Sel a.sel;
    plain = λ p. not_plain p;
  }

  pub after_size : (id : ℕ) (result : Result FruSize Code) → SizeAnswers id result mid answered
      → SizeAnswers id result old new
  after_size id result a = record {
    change = changed;
    gives = given _ _ result
        (λ size g. (g.0, g.1, g.2, g.3, piece _ g.4)) a.gives;
    sdr = loses Sdr a.sdr;
    sel = loses Sel a.sel;
    plain = λ p. not_plain p;
  }

  pub after_bytes : (id offset asked : ℕ) (result : Result ℕ Code) (into : List ℕ)
      → BytesAnswers id offset asked result into mid answered
      → BytesAnswers id offset asked result into old new
  after_bytes id offset asked result into a = record {
    change = changed;
    gives = given _ _ result (λ got g. (g.0, g.1, g.2, piece _ g.3)) a.gives;
    sdr = loses Sdr a.sdr;
    sel = loses Sel a.sel;
    plain = λ p. not_plain p;
  }
