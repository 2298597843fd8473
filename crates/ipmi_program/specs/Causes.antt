-- Why an image is faulty, in words.
use Rattle.std.specs.Prelude.{ℕ, Option, Some, None, List, [], codes}
use Rattle.ipmi_image.specs.declared.cause.Beginning.{Beginning}
use Rattle.ipmi_image.specs.declared.cause.FaultCause.{FaultCause}
use Rattle.ipmi_image.specs.declared.cause.LineCause.{LineCause}
use Rattle.ipmi_image.specs.declared.cause.RuleCause.{RuleCause}

-- bytes that are no image
abbrev pub beginning_words : Beginning → List ℕ
beginning_words Beginning.Empty =
    codes " (it is empty: make an image with 'serdimko-live ... -- capture', and read it with --image FILE)"
beginning_words Beginning.Compressed = codes " (compressed: unpack it first)"
beginning_words Beginning.ByteOrderMark = codes " (begins with a byte order mark: save it without)"
beginning_words Beginning.WideText = codes " (is UTF-16 or UTF-32: save it as UTF-8)"
beginning_words Beginning.CrLfText = codes " (line ends are CR LF: use LF alone)"
beginning_words Beginning.CrText = codes " (line ends are CR: use LF alone)"
beginning_words Beginning.RawRecords =
    codes " (raw bytes of records: an image has them in hex, on lines sdr or sel; 'serdimko-live ... -- capture' makes one)"
beginning_words Beginning.RawInventory = codes " (raw bytes of an inventory: an image has them in hex, on a line 'fru 00 HEX')"
beginning_words Beginning.Header =
    codes " (not an image: the first line has to be 'ipmi-image 1', 'ipmi-image 2' or 'ipmi-image 3', with a line feed and no space after it; 'serdimko-live ... -- capture' makes an image)"

-- why a line is invalid
abbrev pub line_words : LineCause → List ℕ
line_words LineCause.CrLf = codes " (it ends with CR LF: use LF alone)"
line_words LineCause.Tab = codes " (it has a tab: between two fields one space, none at the start or the end)"
line_words LineCause.EmptyLine = codes " (it is empty: remove the line)"
line_words LineCause.LeadingSpace = codes " (it begins with a space: remove the space, or the line if that is all it has)"
line_words LineCause.EmptyField = codes " (a field is empty: between two fields one space, and none at the end)"
line_words LineCause.FirstWord = codes " (it has to begin with sdr, sel, fru, reading, info or end, in lower case)"
line_words LineCause.RowFields = codes " (sdr and sel take three fields: ID NEXT HEX)"
line_words LineCause.Dash = codes " (NEXT is a dash: the first line has to be 'ipmi-image 2')"
line_words LineCause.RowNumbers = codes " (ID and NEXT are four hex digits each, as 002a; in 'ipmi-image 2' NEXT may be a dash)"
line_words LineCause.InventoryFields = codes " (fru takes two fields: ID HEX)"
line_words LineCause.InventoryNumber = codes " (the ID of fru is two hex digits, 00 to fe, as 0a)"
line_words LineCause.ReadingFields = codes " (reading takes three fields: LUN NUM HEX)"
line_words LineCause.ReadingNumbers = codes " (LUN is one digit, 0 to 3, and NUM two hex digits, as 0 2a)"
line_words LineCause.InfoFields = codes " (info takes sdr HEX or sel HEX)"
line_words LineCause.EndFields = codes " (end stands alone, with no space after it)"
line_words LineCause.Lack =
    codes " (lacks comes before all other lines, and takes sdr ID CODE, sel ID CODE, info sdr CODE, info sel CODE, reading LUN NUM CODE, size ID CODE or fru ID CODE)"
line_words LineCause.OddDigits = codes " (an odd number of digits: each byte has two)"
line_words LineCause.NotHex = codes " (a field has a character that is not a hex digit)"

-- the rule that a line, or the end of the image, breaks
abbrev pub rule_words : RuleCause → List ℕ
rule_words RuleCause.LastId = codes " (a record id can't be FFFF)"
rule_words RuleCause.ZeroId = codes " (only the first record may have the id 0000)"
rule_words RuleCause.DeviceId = codes " (a FRU device id can't be FF)"
rule_words RuleCause.Lun = codes " (a LUN is 0 to 3)"
rule_words RuleCause.RecordTwice = codes " (an earlier line has this record id)"
rule_words RuleCause.ReadingTwice = codes " (an earlier line has this LUN and NUM)"
rule_words RuleCause.InfoTwice = codes " (one info each for sdr and sel)"
rule_words RuleCause.SdrLen = codes " (sdr takes 5 bytes and as many more as the fifth says, at most 256 in all)"
rule_words RuleCause.SelLen = codes " (sel takes 16 bytes)"
rule_words RuleCause.ReadingLen = codes " (reading takes 4 bytes)"
rule_words RuleCause.InfoLen = codes " (info takes 14 bytes)"
rule_words RuleCause.FirstId =
    codes " (the first record's bytes have to begin with the ID of its line, low byte first: ID 12ab as ab12)"
rule_words RuleCause.TooManyBytes = codes " (with this line the inventory has more than 65,535)"
rule_words RuleCause.AfterEnd = codes " (the line 'end' has to be the last)"
rule_words RuleCause.CutEnd = codes " (after 'end' a line feed is missing)"
rule_words RuleCause.CutLine = codes " (it is cut off: its last line has no line feed)"
rule_words RuleCause.NoEnd = codes " (its last line is not 'end': it may be cut off)"

-- nothing is said of a cause that is not known
abbrev pub cause_words : Option FaultCause → List ℕ
cause_words (Some (FaultCause.Beginning cause)) = beginning_words cause
cause_words (Some (FaultCause.Line cause)) = line_words cause
cause_words (Some (FaultCause.Rule cause)) = rule_words cause
cause_words None = []
