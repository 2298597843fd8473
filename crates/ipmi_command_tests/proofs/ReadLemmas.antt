-- A reply to a request as the controller reads it is a reply to the original request.
use Rattle.std.proofs.Common.{◌≡◌, ◌<◌, ◌≤◌, ◌+◌, ◌==◌, ◌&&◌, nat_le, if◌then◌else◌, Bool, min, ap, ◌∙◌, ℕ, ◌%◌, ◌/◌, ◌*◌, Some, None, Ok, Err, Result, List, [], drop, refl, sym, subst, arith}
use Rattle.std.proofs.lemmas.Bool.Decides.{nat_tests}
use Rattle.ipmi_bus.specs.declared.code.Code.{Code}
use Rattle.ipmi_bus.specs.declared.code.CodeClass.{CodeClass}
use Rattle.ipmi_bus.specs.declared.code.CodeClass.TheVariants.{Busy, Cancelled, NotPresent, Refusal, SmallerPart}
use Rattle.ipmi_bus.specs.declared.controller.Part.{Part}
use Rattle.ipmi_bus.specs.declared.controller.Shelf.{Shelf}
use Rattle.ipmi_bus.specs.declared.controller.Shelf.TheVariants.{Sdr, Sel}
use Rattle.ipmi_bus.specs.Answers.{PartAnswers, part_asked, PartFailsWith, reads_ahead}
use Rattle.ipmi_bus.specs.Code.{class_of}
use Rattle.ipmi_bus.specs.Seen.{Seen}
use Rattle.ipmi_bus.specs.Shelf.{look}
use Rattle.ipmi_bus.specs.Store.{rows_of}
use Rattle.ipmi_raw.specs.declared.reply.Reply.{Reply}
use Rattle.ipmi_raw.specs.declared.reply.Reply.TheVariants.{Data, Refused, Silent}
use Rattle.ipmi_raw.specs.declared.request.RecordPart.{RecordPart}
use Rattle.ipmi_raw.specs.declared.request.Request.{Request}
use Rattle.ipmi_raw.specs.declared.request.Request.TheVariants.{DeviceId, Reserve, Get, Info, InventorySize, ReadInventory, Reading}
use Rattle.ipmi_raw.specs.declared.tool.Tool.{Tool}
use Rattle.ipmi_raw.specs.declared.tool.Tool.TheVariants.{Ipmitool, FreeIpmi}
use Rattle.ipmi_raw.specs.Answer.{part_in}
use Rattle.ipmi_raw.specs.Peer.{IsReplyText, Replies}
use Rattle.ipmi_raw.specs.Request.{for_shelf, IsRequest, lun_of, message_of}
use Rattle.ipmi_command_tests.specs.Asked.{asked_by, of_eight}
use Rattle.ipmi_command_tests.specs.Replied.{IsReply}

-- the request as the controller reads it; a count for a whole log entry, or more, is read as a whole entry
abbrev pub as_read : Request → Request
as_read DeviceId = DeviceId
as_read (Reserve shelf) = Reserve shelf
as_read (Get part) =
    Get (record part { count = for_shelf part.shelf part.count (if (part.offset == 0) && nat_le 16 part.count then 16 else part.count) })
as_read (Info shelf) = Info shelf
as_read (InventorySize id) = InventorySize id
as_read (ReadInventory part) = ReadInventory part
as_read (Reading lun number) = Reading lun number

fails_more : (ahead : Bool) (A : Type 0) (few more : ℕ) (class : CodeClass) (code : ℕ) (s t : Seen) → few ≤ more
    → PartFailsWith ahead (1 < few) A class code s t → PartFailsWith ahead (1 < more) A class code s t
fails_more ahead A few more Cancelled code s t le h = h
fails_more ahead A few more Busy code s t le h = h
fails_more ahead A few more SmallerPart code s t le h = (omega (arith, h.0, le), h.1)
fails_more ahead A few more NotPresent code s t le h = h
fails_more ahead A few more Refusal code s t le h = h

answers_more : (shelf : Shelf) (reservation id offset few more : ℕ) (result : Result Part Code) (into : List ℕ) (s t : Seen) → few ≤ more
    → reads_ahead shelf offset few ≡ reads_ahead shelf offset more
    → PartAnswers (part_asked shelf reservation id offset few) result into s t
    → PartAnswers (part_asked shelf reservation id offset more) result into s t
answers_more shelf reservation id offset few more (Ok part) into s t le same h = record {
  change = h.change;
  gives = (
    h.gives.0,
    record {
      found = h.gives.1.found;
      piece = record {
        some = h.gives.1.piece.some;
        fits = omega (arith, h.gives.1.piece.fits, le);
        within = h.gives.1.piece.within;
        bytes = h.gives.1.piece.bytes;
      };
      next = h.gives.1.next;
      reserved = h.gives.1.reserved;
      counts = h.gives.1.counts;
    },
  );
  keeps = h.keeps;
  beside = h.beside;
  plain = h.plain;
}
answers_more shelf reservation id offset few more (Err code) into s t le same h = record {
  change = h.change;
  gives = subst (λ (ahead : Bool). PartFailsWith ahead (1 < more) (look (rows_of shelf t.store) id ≡ None) (class_of code.0) code.0 s t)
      same (fails_more (reads_ahead shelf offset few) (look (rows_of shelf t.store) id ≡ None) few more (class_of code.0) code.0 s t le h.gives);
  keeps = h.keeps;
  beside = h.beside;
  plain = h.plain;
}

-- a reply to a request for fewer bytes is also a reply to a request for more
reply_more : (part : RecordPart) (few : ℕ) (reply : Reply) (s t : Seen) → few ≤ part.count
    → reads_ahead part.shelf part.offset few ≡ reads_ahead part.shelf part.offset part.count
    → IsReply (Get (record part { count = few })) reply s t → IsReply (Get part) reply s t
reply_more part few (Data bytes) s t le same h = (
  (h.0.0, omega (arith, h.0.1, le)),
  answers_more part.shelf part.reservation part.id part.offset few part.count (Ok (part_in bytes)) (drop 2 bytes) s t le same h.1,
)
reply_more part few (Refused code) s t le same h = (
  tt,
  answers_more part.shelf part.reservation part.id part.offset few part.count (Err (record { 0 = code })) [] s t le same h.1,
)
reply_more part few Silent s t le same h = (
  tt,
  answers_more part.shelf part.reservation part.id part.offset few part.count (Err (record { 0 = 0xC3 })) [] s t le same h.1,
)

count_read_le : (shelf : Shelf) (offset count : ℕ) → for_shelf shelf count (if (offset == 0) && nat_le 16 count then 16 else count) ≤ count
count_read_le Sdr offset count = omega arith
count_read_le Sel offset count = grind (arith, nat_tests)

count_read_same : (shelf : Shelf) (offset count : ℕ)
    → reads_ahead shelf offset (for_shelf shelf count (if (offset == 0) && nat_le 16 count then 16 else count)) ≡ reads_ahead shelf offset count
count_read_same Sdr offset count = refl
count_read_same Sel offset count = refl

count_least_same : (shelf : Shelf) (offset count : ℕ) → reads_ahead shelf offset (min count 253) ≡ reads_ahead shelf offset count
count_least_same Sdr offset count = grind (arith, nat_tests)
count_least_same Sel offset count = refl

-- a reply of at most 253 bytes
pub reply_least : (part : RecordPart) (few : ℕ) (reply : Reply) (s t : Seen) → IsReply (Get (record part { count = few })) reply s t
    → few ≡ min part.count 253 → IsReply (Get part) reply s t
reply_least part few reply s t is least =
    reply_more part few reply s t (omega (arith, least))
    (ap (λ (n : ℕ). reads_ahead part.shelf part.offset n) least ∙ count_least_same part.shelf part.offset part.count) is

pub reply_as_read : (sent : Request) (reply : Reply) (s t : Seen) → IsReply (as_read sent) reply s t → IsReply sent reply s t
reply_as_read DeviceId reply s t is = is
reply_as_read (Reserve shelf) reply s t is = is
reply_as_read (Get part) reply s t is =
    reply_more part (for_shelf part.shelf part.count (if (part.offset == 0) && nat_le 16 part.count then 16 else part.count)) reply s t
    (count_read_le part.shelf part.offset part.count) (count_read_same part.shelf part.offset part.count) is
reply_as_read (Info shelf) reply s t is = is
reply_as_read (InventorySize id) reply s t is = is
reply_as_read (ReadInventory part) reply s t is = is
reply_as_read (Reading lun number) reply s t is = is

-- the text for the one request is also a text for the other
pub text_as_read : (tool : Tool) (sent : Request) (reply : Reply) (text : List ℕ) → IsReplyText tool (as_read sent) reply text
    → IsReplyText tool sent reply text
text_as_read tool DeviceId reply text is = is
text_as_read tool (Reserve shelf) reply text is = is
text_as_read Ipmitool (Get part) (Data bytes) text is = is
text_as_read Ipmitool (Get part) (Refused code) text is = is
text_as_read Ipmitool (Get part) Silent text is = is
text_as_read FreeIpmi (Get part) (Data bytes) text is = is
text_as_read FreeIpmi (Get part) (Refused code) text is = is
text_as_read FreeIpmi (Get part) Silent text is = is
text_as_read tool (Info shelf) reply text is = is
text_as_read tool (InventorySize id) reply text is = is
text_as_read tool (ReadInventory part) reply text is = is
text_as_read tool (Reading lun number) reply text is = is

-- ---- the request of a message

number_is : (n : ℕ) → n % 256 + 256 * (n / 256) ≡ n
number_is n = omega arith

get_is : (shelf : Shelf) (reservation id offset count : ℕ) → 0 < count → count < 255
    → of_eight 0x0A (for_shelf shelf 0x23 0x43) reservation id offset
    (for_shelf shelf count (if (offset == 0) && nat_le 16 count then 0xFF else count))
    ≡ Some (as_read (Get (record { shelf = shelf; reservation = reservation; id = id; offset = offset; count = count })))
get_is Sdr reservation id offset count some lt = grind (arith, nat_tests)
get_is Sel reservation id offset count some lt = grind (arith, nat_tests)

pub asked_is : (sent : Request) → IsRequest sent → asked_by (lun_of sent) (message_of sent) ≡ Some (as_read sent)
asked_is DeviceId is = refl
asked_is (Reserve Sdr) is = refl
asked_is (Reserve Sel) is = refl
asked_is (Get part) is =
    rw (number_is part.reservation, number_is part.id) (get_is part.shelf part.reservation part.id part.offset part.count is.3 is.4)
asked_is (Info Sdr) is = refl
asked_is (Info Sel) is = refl
asked_is (InventorySize id) is = refl
asked_is (ReadInventory part) is = rw (number_is part.offset) (grind (arith, nat_tests, is.2, is.3))
asked_is (Reading lun number) is = refl

-- ---- a whole exchange

pub reads : (sent : Request) (lun : ℕ) (message : List ℕ) → IsRequest sent → lun_of sent ≡ lun → message ≡ message_of sent
    → asked_by lun message ≡ Some (as_read sent)
reads sent lun message is at e = rw (sym at, e) (asked_is sent is)

pub replies : (tool : Tool) (sent asked : Request) (reply : Reply) (text : List ℕ) (s t : Seen) → asked ≡ as_read sent
    → IsReplyText tool asked reply text → IsReply asked reply s t → Replies tool sent text s t
replies tool sent asked reply text s t e printed is =
    let read = reply_as_read sent reply s t (subst (λ (x : Request). IsReply x reply s t) e is) in record {
      reply = reply;
      text_is = text_as_read tool sent reply text (subst (λ (x : Request). IsReplyText tool x reply text) e printed);
      fits = read.0;
      answers = read.1;
    }
