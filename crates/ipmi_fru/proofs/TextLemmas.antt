-- An inventory has at most one text.
use Rattle.std.proofs.Common.{◌≡◌, ◌∙◌, inl, inr, ℕ, Option, None, Some, Result, Ok, Err, List, [], ◌∷◌, refl, ap, sym, subst, codes}
use Rattle.ipmi_text.specs.Laws.{DecimalIsUnique, MinutesTextIsUnique}
use Rattle.ipmi_fru.specs.Prelude.{AreaKind, Chassis, Board, Product, AreaFault, FruFault, MultiFault, RecordForm, Dc, Access, Other, header_fault, Spells, Area, IsArea, IsAreaFault, IsFound, field_bytes, MultiRecord, IsLead, IsTextFound, IsTextOfArea, IsTextInForm, IsItemText, AreItemTexts, IsTextOfRecords, IsTextByFault, IsFruText, form_of}
use Rattle.ipmi_text.specs.Lines.{labelled}
use Rattle.ipmi_fru.proofs.UniqueLemmas.{one_items, one_list_of_fields}

module _ (one_text : DecimalIsUnique) (one_minutes_text : MinutesTextIsUnique) where
  -- ---- areas

  -- areas with equal parts are equal
  same_area : (a b : Area) → a.kind ≡ b.kind → a.bytes ≡ b.bytes → a.fields ≡ b.fields → a ≡ b
  same_area a b kind bytes fields =
      ap (λ (k : AreaKind). record { kind = k; bytes = a.bytes; fields = a.fields }) kind ∙ rw (bytes, fields) refl

  one_area : (kind : AreaKind) (offset : ℕ) (bytes : List ℕ) (a b : Area)
      → IsArea kind offset bytes a → IsArea kind offset bytes b → a ≡ b
  one_area kind offset bytes a b x y =
      let same : a.bytes ≡ b.bytes = x.bytes_are ∙ sym y.bytes_are in
      let spells : Spells (field_bytes kind b.bytes) a.fields = subst (λ (l : List ℕ). Spells (field_bytes kind l) a.fields) same x.fields_are in
      same_area a b (x.kind_is ∙ sym y.kind_is) same (one_list_of_fields (field_bytes kind b.bytes) a.fields b.fields spells y.fields_are)

  -- bytes are not both an area and a faulty area
  no_fault : (kind : AreaKind) (offset : ℕ) (bytes : List ℕ) (a : Area) (f : AreaFault)
      → IsArea kind offset bytes a → IsAreaFault kind offset bytes f → ⊥
  no_fault kind offset bytes a f x (inl is) = cc (x.fine, is)
  no_fault kind offset bytes a f x (inr past) = past.0.no_list a.fields (subst (λ (l : List ℕ). Spells (field_bytes kind l) a.fields) x.bytes_are x.fields_are)

  one_fault : (kind : AreaKind) (offset : ℕ) (bytes : List ℕ) (f g : AreaFault)
      → IsAreaFault kind offset bytes f → IsAreaFault kind offset bytes g → f ≡ g
  one_fault kind offset bytes f g (inl is) (inl at) = cc (is, at)
  one_fault kind offset bytes f g (inl is) (inr past) = cc (is, past.0.fine)
  one_fault kind offset bytes f g (inr past) (inl is) = cc (is, past.0.fine)
  one_fault kind offset bytes f g (inr past) (inr other) = past.1 ∙ sym other.1

  -- a fact about one of two equal places holds for the other
  moved : {place : Option ℕ} (P : ℕ → Type 0) (m n : ℕ) → place ≡ Some m → place ≡ Some n → P n
      → P m
  moved P m n x y holds = let same : n ≡ m = cc (x, y) in subst P same holds

  -- an inventory has at most one area, or fault, of a kind
  pub one_found : (kind : AreaKind) (bytes : List ℕ) (a b : Option (Result Area AreaFault))
      → IsFound kind bytes a → IsFound kind bytes b → a ≡ b
  one_found kind bytes None None x y = refl
  one_found kind bytes None (Some (Ok b)) x y = cc (x, y.1.0)
  one_found kind bytes None (Some (Err g)) x y = cc (x, y.1.0)
  one_found kind bytes (Some (Ok a)) None x y = cc (y, x.1.0)
  one_found kind bytes (Some (Err f)) None x y = cc (y, x.1.0)
  one_found kind bytes (Some (Ok a)) (Some (Ok b)) x y =
      cc (one_area kind x.0 bytes a b x.1.1 (moved (λ n. IsArea kind n bytes b) x.0 y.0 x.1.0 y.1.0 y.1.1))
  one_found kind bytes (Some (Ok a)) (Some (Err g)) x y =
      absurd (no_fault kind x.0 bytes a g x.1.1 (moved (λ n. IsAreaFault kind n bytes g) x.0 y.0 x.1.0 y.1.0 y.1.1))
  one_found kind bytes (Some (Err f)) (Some (Ok b)) x y =
      absurd (no_fault kind x.0 bytes b f (moved (λ n. IsArea kind n bytes b) x.0 y.0 x.1.0 y.1.0 y.1.1) x.1.1)
  one_found kind bytes (Some (Err f)) (Some (Err g)) x y =
      cc (one_fault kind x.0 bytes f g x.1.1 (moved (λ n. IsAreaFault kind n bytes g) x.0 y.0 x.1.0 y.1.0 y.1.1))

  one_lead : (kind : AreaKind) (area text other : List ℕ) → IsLead kind area text
      → IsLead kind area other → text ≡ other
  one_lead Chassis area text other h k = h ∙ sym k
  one_lead Board area text other h k = h.1.1 ∙ ap (labelled (codes "Board Mfg Date")) (one_minutes_text _ h.0 k.0 h.1.0 k.1.0) ∙ sym k.1.1
  one_lead Product area text other h k = h ∙ sym k

  one_text_found : (kind : AreaKind) (found : Option (Result Area AreaFault)) (text other : List ℕ)
      → IsTextFound kind found text → IsTextFound kind found other → text ≡ other
  one_text_found kind None text other h k = h ∙ sym k
  one_text_found kind (Some (Ok area)) text other h k =
      h.text_is ∙ rw (one_lead area.kind area.bytes h.lead k.lead h.is_lead k.is_lead) (sym k.text_is)
  one_text_found kind (Some (Err f)) text other h k = h ∙ sym k

  one_area_text : (kind : AreaKind) (bytes text other : List ℕ) → IsTextOfArea kind bytes text
      → IsTextOfArea kind bytes other → text ≡ other
  one_area_text kind bytes text other h k =
      one_text_found kind k.found text other (subst (λ (found : Option (Result Area AreaFault)). IsTextFound kind found text) (one_found kind bytes h.found k.found h.is_found k.is_found) h.is_text) k.is_text

  -- ---- records

  one_form : (form : RecordForm) (r : MultiRecord) (text other : List ℕ) → IsTextInForm form r text
      → IsTextInForm form r other → text ≡ other
  one_form (Dc kind) r text other h k =
      let nominal = one_text _ h.nominal k.nominal h.nominal_is k.nominal_is in
      let low = one_text _ h.low k.low h.low_is k.low_is in
      let high = one_text _ h.high k.high h.high_is k.high_is in
      h.text_is ∙ rw (nominal, low, high) (sym k.text_is)
  one_form Access r text other h k = h ∙ sym k
  one_form Other r text other h k = h ∙ sym k

  one_item : (item : Result MultiRecord MultiFault) (text other : List ℕ) → IsItemText item text
      → IsItemText item other → text ≡ other
  one_item (Ok r) text other h k = one_form (form_of r) r text other h k
  one_item (Err f) text other h k = h ∙ sym k

  one_list : (items : List (Result MultiRecord MultiFault)) (text other : List ℕ)
      → AreItemTexts items text → AreItemTexts items other → text ≡ other
  one_list [] text other h k = h ∙ sym k
  one_list (item ∷ items) text other h k =
      h.2.1.1 ∙ rw (one_item item h.0 k.0 h.2.0 k.2.0, one_list items h.1 k.1 h.2.1.0 k.2.1.0) (sym k.2.1.1)

  one_records_text : (bytes text other : List ℕ) → IsTextOfRecords bytes text
      → IsTextOfRecords bytes other → text ≡ other
  one_records_text bytes text other h k =
      one_list k.items text other (subst (λ (items : List (Result MultiRecord MultiFault)). AreItemTexts items text) (one_items bytes h.items k.items h.are_items k.are_items) h.are_texts) k.are_texts

  -- ---- the inventory

  one_by_fault : (o : Option FruFault) (bytes text other : List ℕ) → IsTextByFault o bytes text
      → IsTextByFault o bytes other → text ≡ other
  one_by_fault (Some f) bytes text other h k = h ∙ sym k
  one_by_fault None bytes text other h k =
      h.text_is ∙ rw (one_area_text Chassis bytes h.chassis k.chassis h.is_chassis k.is_chassis, one_area_text Board bytes h.board k.board h.is_board k.is_board, one_area_text Product bytes h.product k.product h.is_product k.is_product, one_records_text bytes h.records k.records h.is_records k.is_records) (sym k.text_is)

  pub one_fru_text : (bytes text other : List ℕ) → IsFruText bytes text → IsFruText bytes other
      → text ≡ other
  one_fru_text bytes text other h k = one_by_fault (header_fault bytes) bytes text other h k
