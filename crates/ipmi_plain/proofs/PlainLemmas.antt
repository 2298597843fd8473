-- The texts in codes and in words: each thing has one.
use Rattle.std.proofs.Common.{◌≡◌, ℕ, Option, None, Some, List, refl, sym, ◌∙◌, arith, length-append}
use Rattle.ipmi_text.specs.Bytes.{AreBytes}
use Rattle.ipmi_fru.specs.Line.{IsFruLine}
use Rattle.ipmi_fru.specs.Print.{IsFruText}
use Rattle.ipmi_records.specs.Info.{IsInfoBlock}
use Rattle.ipmi_records.specs.Laws.{ExtendedLineIsUnique, SdrLineIsUnique, SelBlockIsUnique, SelLineIsUnique}
use Rattle.ipmi_records.specs.SdrText.{IsExtendedLine, IsSdrBlock, IsSdrLine}
use Rattle.ipmi_records.specs.Sel.{entry_bytes}
use Rattle.ipmi_records.specs.SelText.{IsSelBlock, IsSelLine}
use Rattle.ipmi_records.specs.declared.column.KnownReading.{KnownReading}
use Rattle.ipmi_records.specs.declared.sdr.SdrView.{SdrView}
use Rattle.ipmi_records.specs.declared.sel.SelView.{SelView}
use Rattle.ipmi_events.specs.Laws.{EventInWordsExists, EventInWordsIsUnique}
use Rattle.ipmi_events.specs.SensorLaws.{SensorBlockExists, SensorBlockIsUnique, SensorLineExists, SensorLineIsUnique}
use Rattle.ipmi_selection.specs.declared.detail.Detail.{Detail}
use Rattle.ipmi_commands.specs.Format.{IsTextOfRecord, TextsAreOne, TextsExist}
use Rattle.ipmi_plain.specs.Plain.{descriptive_texts, IsDeviceInWords, IsEntryInCodes, IsEntryInWords, IsInventoryPiece, IsInventoryText, IsRecordInCodes, IsRecordInWords, plain_texts}

-- there is at most one such text
abbrev IsOne : (List ℕ → Type 0) → Type 0
IsOne IsText = (a b : List ℕ) → IsText a → IsText b → a ≡ b

module _ (one_line : SdrLineIsUnique) (one_long : ExtendedLineIsUnique)
    (one_block : (id : ℕ) (view : SdrView) (r : KnownReading) → IsOne (IsSdrBlock id view r))
    (one_sel_line : SelLineIsUnique) (one_sel_block : SelBlockIsUnique)
    (one_info : (info text other : List ℕ) → AreBytes info → IsInfoBlock info text → IsInfoBlock info other → text ≡ other)
    (one_fru : (bytes : List ℕ) → IsOne (IsFruText bytes)) where
  one_record : (detail : Detail) (id : ℕ) (view : SdrView) (reading : KnownReading)
      → IsOne (IsRecordInCodes detail id view reading)
  one_record Detail.Line id view reading a b p q = one_line view reading a b p q
  one_record Detail.Long id view reading a b p q = one_long view reading a b p q
  one_record Detail.Block id view reading a b p q = one_block id view reading a b p q

  one_entry : (detail : Detail) (id : ℕ) (view : SelView) (a b : List ℕ) → AreBytes (entry_bytes view)
      → IsEntryInCodes detail id view a → IsEntryInCodes detail id view b → a ≡ b
  one_entry Detail.Line id view a b are p q = one_sel_line id view a b are p q
  one_entry Detail.Long id view a b are p q = one_sel_line id view a b are p q
  one_entry Detail.Block id view a b are p q = one_sel_block id view a b are p q

  one_inventory : (o : Option (List ℕ)) → IsOne (IsInventoryText o)
  one_inventory None a b p q = p ∙ sym q
  one_inventory (Some bytes) a b p q = one_fru bytes a b p q

  one_device : (id : ℕ) (name inventory : Option (List ℕ)) → IsOne (IsInventoryPiece id name inventory)
  one_device id name inventory a b p q =
      p.text_is ∙ rw (one_inventory inventory p.part q.part p.is_part q.is_part) (sym q.text_is)

  pub one_in_codes : TextsAreOne plain_texts
  one_in_codes = record {
    record_is = one_record;
    fault_is = λ id fault bytes a b p q. p ∙ sym q;
    hex_is = λ row a b p q. p ∙ sym q;
    entry_is = λ detail id view sensors a b are p q. one_entry detail id view a b are p q;
    info_is = λ shelf info a b are p q. one_info info a b are p q;
    device_is = λ detail id name inventory a b p q. one_device id name inventory a b p q;
    elsewhere_is = λ name a b p q. p ∙ sym q;
  }

module _ (plain : TextsAreOne plain_texts) (one_device_line : (id : ℕ) (name inventory : Option (List ℕ)) → IsOne (IsFruLine id name inventory))
    (one_event : EventInWordsIsUnique) (one_sensor_line : SensorLineIsUnique) (one_sensor_block : SensorBlockIsUnique) where
  record_in_words : (detail : Detail) (id : ℕ) (view : SdrView) (reading : KnownReading)
      → IsOne (IsRecordInWords detail id view reading)
  record_in_words Detail.Line id view reading a b p q = one_sensor_line view reading a b p q
  record_in_words Detail.Long id view reading a b p q = plain.record_is Detail.Long id view reading a b p q
  record_in_words Detail.Block id view reading a b p q = one_sensor_block id view reading a b p q

  entry_in_words : (detail : Detail) (id : ℕ) (view : SelView) (sensors : Option (List (List ℕ))) (a b : List ℕ)
      → AreBytes (entry_bytes view) → IsEntryInWords detail id view sensors a → IsEntryInWords detail id view sensors b → a ≡ b
  entry_in_words Detail.Line id view None a b are p q = plain.entry_is Detail.Line id view None a b are p q
  entry_in_words Detail.Line id view (Some sensors) a b are p q = one_event id view sensors a b are p q
  entry_in_words Detail.Long id view None a b are p q = plain.entry_is Detail.Long id view None a b are p q
  entry_in_words Detail.Long id view (Some sensors) a b are p q = one_event id view sensors a b are p q
  entry_in_words Detail.Block id view sensors a b are p q = plain.entry_is Detail.Block id view sensors a b are p q

  device_in_words : (detail : Detail) (id : ℕ) (name inventory : Option (List ℕ)) → IsOne (IsDeviceInWords detail id name inventory)
  device_in_words Detail.Line id name inventory a b p q = one_device_line id name inventory a b p q
  device_in_words Detail.Long id name inventory a b p q = one_device_line id name inventory a b p q
  device_in_words Detail.Block id name inventory a b p q = plain.device_is Detail.Block id name inventory a b p q

  pub one_in_words : TextsAreOne descriptive_texts
  one_in_words = record {
    record_is = record_in_words;
    fault_is = plain.fault_is;
    hex_is = plain.hex_is;
    entry_is = entry_in_words;
    info_is = plain.info_is;
    device_is = device_in_words;
    elsewhere_is = λ name a b p q. p ∙ sym q;
  }

-- ---- there is such a text

abbrev HasText : (List ℕ → Type 0) → Type 0
HasText IsText = (text : List ℕ) × IsText text

module _ (line : (view : SdrView) (reading : KnownReading) → HasText (IsSdrLine view reading))
    (long : (view : SdrView) (reading : KnownReading) → HasText (IsExtendedLine view reading))
    (block : (id : ℕ) (view : SdrView) (reading : KnownReading) → HasText (IsSdrBlock id view reading))
    (entry_line : (id : ℕ) (view : SelView) → HasText (IsSelLine id view))
    (entry_block : (id : ℕ) (view : SelView) → HasText (IsSelBlock id view))
    (info : (bytes : List ℕ) → HasText (IsInfoBlock bytes))
    (fru : (bytes : List ℕ) → AreBytes bytes → HasText (IsFruText bytes)) where
  has_record : (detail : Detail) (id : ℕ) (view : SdrView) (reading : KnownReading)
      → HasText (IsTextOfRecord plain_texts detail id view reading)
  has_record Detail.Line id view reading = let has = line view reading in (has.0, (has.1, grind (arith, length-append, has.1)))
  has_record Detail.Long id view reading = let has = long view reading in (has.0, (has.1, grind (arith, length-append, has.1)))
  has_record Detail.Block id view reading = let has = block id view reading in (has.0, (has.1, grind (arith, length-append, has.1)))

  has_entry : (detail : Detail) (id : ℕ) (view : SelView) → HasText (IsEntryInCodes detail id view)
  has_entry Detail.Line id view = entry_line id view
  has_entry Detail.Long id view = entry_line id view
  has_entry Detail.Block id view = entry_block id view

  has_inventory : (o : Option (List ℕ)) → ((bytes : List ℕ) → o ≡ Some bytes → AreBytes bytes) → HasText (IsInventoryText o)
  has_inventory None are = (_, refl)
  has_inventory (Some bytes) are = fru bytes (are bytes refl)

  has_device : (id : ℕ) (name inventory : Option (List ℕ)) → ((bytes : List ℕ) → inventory ≡ Some bytes → AreBytes bytes)
      → HasText (IsInventoryPiece id name inventory)
  has_device id name inventory are =
      let has = has_inventory inventory are in (_, record { part = has.0; is_part = has.1; text_is = refl })

  pub exist_in_codes : TextsExist plain_texts
  exist_in_codes = record {
    has_record = has_record;
    has_fault = λ id fault bytes. (_, refl);
    has_hex = λ row. (_, refl);
    has_entry = λ detail id view sensors. has_entry detail id view;
    has_info = λ shelf bytes. info bytes;
    has_device = λ detail id name inventory are. has_device id name inventory are;
    has_elsewhere = λ name. (_, refl);
  }

module _ (plain : TextsExist plain_texts) (bare : (id : ℕ) (name : Option (List ℕ)) → HasText (IsFruLine id name None))
    (present : (id : ℕ) (name : Option (List ℕ)) (bytes : List ℕ) → AreBytes bytes → HasText (IsFruLine id name (Some bytes)))
    (in_words : EventInWordsExists) (sensor_line : SensorLineExists) (sensor_block : SensorBlockExists) where
  has_record_in_words : (detail : Detail) (id : ℕ) (view : SdrView) (reading : KnownReading)
      → HasText (IsTextOfRecord descriptive_texts detail id view reading)
  has_record_in_words Detail.Line id view reading = let has = sensor_line view reading in (has.0, (has.1, grind (arith, length-append, has.1)))
  has_record_in_words Detail.Long id view reading = plain.has_record Detail.Long id view reading
  has_record_in_words Detail.Block id view reading = let has = sensor_block id view reading in (has.0, (has.1, grind (arith, length-append, has.1)))

  has_entry_in_words : (detail : Detail) (id : ℕ) (view : SelView) (sensors : Option (List (List ℕ)))
      → HasText (IsEntryInWords detail id view sensors)
  has_entry_in_words Detail.Line id view None = plain.has_entry Detail.Line id view None
  has_entry_in_words Detail.Line id view (Some sensors) = in_words id view sensors
  has_entry_in_words Detail.Long id view None = plain.has_entry Detail.Long id view None
  has_entry_in_words Detail.Long id view (Some sensors) = in_words id view sensors
  has_entry_in_words Detail.Block id view sensors = plain.has_entry Detail.Block id view sensors

  has_line : (id : ℕ) (name inventory : Option (List ℕ)) → ((bytes : List ℕ) → inventory ≡ Some bytes → AreBytes bytes)
      → HasText (IsFruLine id name inventory)
  has_line id name None are = bare id name
  has_line id name (Some bytes) are = present id name bytes (are bytes refl)

  has_device_in_words : (detail : Detail) (id : ℕ) (name inventory : Option (List ℕ))
      → ((bytes : List ℕ) → inventory ≡ Some bytes → AreBytes bytes) → HasText (IsDeviceInWords detail id name inventory)
  has_device_in_words Detail.Line id name inventory are = has_line id name inventory are
  has_device_in_words Detail.Long id name inventory are = has_line id name inventory are
  has_device_in_words Detail.Block id name inventory are = plain.has_device Detail.Block id name inventory are

  pub exist_in_words : TextsExist descriptive_texts
  exist_in_words = record {
    has_record = has_record_in_words;
    has_fault = plain.has_fault;
    has_hex = plain.has_hex;
    has_entry = has_entry_in_words;
    has_info = plain.has_info;
    has_device = has_device_in_words;
    has_elsewhere = λ name. (_, refl);
  }
