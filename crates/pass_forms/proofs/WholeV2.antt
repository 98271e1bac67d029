-- Lemmas for the proof that the V2 reader accepts exactly the bytes that encode a pass.
use Rattle.std.specs.Prelude.{unwrap_or}
use Rattle.pass_forms.proofs.Common.{List, [], ℕ, ◌++◌, ◌∷◌, ◌≡◌, ◌≤◌, AllByRecursion, None, Option, Some, ap, append-nil, append_assoc, arith, flat_map}
use Rattle.pass_forms.proofs.Common.{length, refl, subst, sym, ◌∙◌, WideCaveat, WidePass, caveat_section, caveats_at, field, length-append, optional_field}
use Rattle.pass_forms.proofs.{Common.{ComputesSpelled, SpellsV2, common_steps}, FieldLemmas.{field_takes, field_again, optional_again, optional_takes}}
use Rattle.pass_forms.proofs.{FieldLemmas.{after_prefix_takes, bind_some}, ReadingLemmas.{Exact, caveats_again, caveats_fit, caveats_take, exactly, last_takes}}
use Rattle.pass_forms.{proofs.ReadingLemmas.{made, whole_again, whole_parts}, specs.{Laws.ReadsExactly, V2.{end_of_section, sections, types}}}
use Rattle.pass_forms.specs.computed.V2Reading.{field_at, footer_at, reading_v2, caveat_at, header_at, wide_at}

section_assoc : (a b c rest : List ℕ) → (a ++ (b ++ (c ++ end_of_section))) ++ rest ≡ a ++ (b ++ (c ++ (end_of_section ++ rest)))
section_assoc a b c rest = simp append_assoc

caveat_takes : (bytes : List ℕ) (found : WideCaveat × List ℕ) → caveat_at bytes ≡ Some found → (bytes ≡ caveat_section found.0 ++ found.1) × Unit {0}
unfolding caveat_at
caveat_takes bytes found e = grind (arith, common_steps, optional_takes, field_takes, after_prefix_takes)

-- The parser of a location field doesn't accept an identifier field.
not_location : (text rest : List ℕ) → field_at types.location (field types.identifier text ++ rest) ≡ None
unfolding field_at
not_location text rest = refl

end_is_no_verifier_id : (rest : List ℕ) → field_at types.verifier_id (end_of_section ++ rest) ≡ None
unfolding field_at
end_is_no_verifier_id rest = refl

caveat_again : (caveat : WideCaveat) (rest : List ℕ) → Unit {0} → Unit {0} → caveat_at (caveat_section caveat ++ rest) ≡ Some (caveat, rest)
unfolding caveat_at
caveat_again caveat rest fits ends =
    let lt = optional_field types.location caveat.location in
    let it = field types.identifier caveat.identifier in
    let vt = optional_field types.verifier_id caveat.verifier_id in
    let l = optional_again types.location caveat.location (it ++ (vt ++ (end_of_section ++ rest)))
    (not_location caveat.identifier (vt ++ (end_of_section ++ rest))) in
    let i = field_again types.identifier caveat.identifier (vt ++ (end_of_section ++ rest)) in
    let v = optional_again types.verifier_id caveat.verifier_id (end_of_section ++ rest) (end_is_no_verifier_id rest) in
    ap caveat_at (section_assoc lt it vt rest) ∙ rw (l, i, v) refl

exact_caveats : Exact caveat_at caveat_section (λ _. Unit {0}) (λ _. Unit {0})
exact_caveats = record { takes = caveat_takes; again = caveat_again; next = λ _ _ _. tt }

caveat_has_bytes : (caveat : WideCaveat) → 1 ≤ length (caveat_section caveat)
caveat_has_bytes caveat = grind (arith, common_steps)

footer_takes : (bytes signature : List ℕ) → footer_at bytes ≡ Some signature →
    (bytes ≡ end_of_section ++ field types.signature signature) × (length signature ≡ 32)
unfolding footer_at
footer_takes bytes signature e =
    let r = bind_some _ _ signature e in
    let s = last_takes (field_at types.signature r.0) signature r.2 in
    let is_field : r.0 ≡ field types.signature signature = field_takes types.signature r.0 signature [] s.0 ∙ append-nil (field types.signature signature) in
    (after_prefix_takes end_of_section bytes r.0 r.1 ∙ ap (λ (x : List ℕ). end_of_section ++ x) is_field, s.1)

footer_again : (signature : List ℕ) → length signature ≡ 32 → footer_at (end_of_section ++ field types.signature signature) ≡ Some signature
unfolding footer_at
footer_again signature len =
    let read : field_at types.signature (field types.signature signature) ≡ Some (signature, []) =
    ap (field_at types.signature) (sym (append-nil (field types.signature signature))) ∙ field_again types.signature signature [] in
    rw (read, len) refl

end_is_no_caveat : (rest : List ℕ) → caveat_at (end_of_section ++ rest) ≡ None
unfolding caveat_at field_at
end_is_no_caveat rest = refl

pub record Heads (bytes : List ℕ) (header : List ℕ × List ℕ × List ℕ) : Type 0 where
  pub location : Option (List ℕ)
  pub is_location : unwrap_or location [] ≡ header.0
  pub parts : bytes ≡ 2 ∷ optional_field types.location location ++ (field types.identifier header.1 ++ (end_of_section ++ header.2))

header_takes : (bytes : List ℕ) (header : List ℕ × List ℕ × List ℕ) → header_at bytes ≡ Some header → Heads bytes header
unfolding header_at
header_takes bytes header e = grind (arith, common_steps, optional_takes, field_takes, after_prefix_takes)

header_again : (location : Option (List ℕ)) (identifier rest : List ℕ) →
    header_at (2 ∷ optional_field types.location location ++ (field types.identifier identifier ++ (end_of_section ++ rest))) ≡ Some
    (unwrap_or location [], identifier, rest)
unfolding header_at
header_again location identifier rest = grind (arith, optional_again, not_location, field_again)

wide_takes : (bytes : List ℕ) (wide : WidePass) → wide_at bytes ≡ Some wide → SpellsV2 bytes wide
wide_takes bytes wide e =
    let p = whole_parts header_at caveat_at footer_at bytes wide e in
    let read = caveats_at caveat_at (length p.header.2) p.header.2 in
    let h = header_takes bytes p.header p.at_header in
    let c = caveats_take caveat_at caveat_section (λ _. Unit {0}) (λ _. Unit {0}) exact_caveats (length p.header.2) p.header.2 in
    let s = footer_takes read.1 p.signature p.at_footer in
    let parts : bytes ≡ sections h.location (made p.header read.0 p.signature) = cc (h.parts, c.0, s.0) in
    let spelling : SpellsV2 bytes (made p.header read.0 p.signature) =
    record { location = h.location; is_location = h.is_location; sections = parts; signature = s.1 } in
    subst (λ (w : WidePass). SpellsV2 bytes w) p.whole spelling

all_fit : (caveats : List WideCaveat) → AllByRecursion (λ _. Unit {0}) caveats
all_fit [] = tt
all_fit (caveat ∷ caveats) = (tt, all_fit caveats)

wide_again : (bytes : List ℕ) (wide : WidePass) → SpellsV2 bytes wide → wide_at bytes ≡ Some wide
wide_again bytes wide spelling =
    let last = end_of_section ++ field types.signature wide.signature in
    let caveats = flat_map caveat_section wide.caveats ++ last in
    let fuel : length wide.caveats ≤ length caveats =
    omega (arith, caveats_fit caveat_section caveat_has_bytes wide.caveats, length-append (flat_map caveat_section wide.caveats) last) in
    let h = ap header_at spelling.sections ∙ header_again spelling.location wide.identifier caveats in
    let c =
    caveats_again caveat_at caveat_section (λ _. Unit {0}) (λ _. Unit {0}) exact_caveats (length caveats) wide.caveats last fuel (all_fit wide.caveats) tt
    (end_is_no_caveat (field types.signature wide.signature)) in
    whole_again header_at caveat_at footer_at bytes (unwrap_or spelling.location [], wide.identifier, caveats) wide.caveats last wide.signature h c
    (footer_again wide.signature spelling.signature)
    ∙ ap (λ (l : List ℕ). Some (made (l, wide.identifier, caveats) wide.caveats wide.signature)) spelling.is_location

pub computes_v2 : ComputesSpelled SpellsV2 wide_at
computes_v2 bytes wide = (wide_again bytes wide, wide_takes bytes wide)

pub reads_v2 : ReadsExactly SpellsV2 reading_v2
unfolding reading_v2
reads_v2 bytes = exactly (length bytes) (SpellsV2 bytes) (wide_at bytes) (computes_v2 bytes)
