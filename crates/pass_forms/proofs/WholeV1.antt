-- Lemmas for the proof that the V1 reader accepts exactly the bytes that encode a pass.
use Rattle.std.proofs.{Common.{rules, IfSome}, lemmas.Option.same_Some}
use Rattle.pass_forms.proofs.Common.{List, None, Some, [], ap, append-nil, FitsPacket, SpellsV1, WidePass, arith, flat_map, length, refl, subst, ℕ, ◌++◌, ◌∙◌}
use Rattle.pass_forms.proofs.Common.{◌≡◌, ◌≤◌, ComputesSpelled, caveat_packets, caveats_at, length-append, packet, Option, WideCaveat, append_assoc, sym}
use Rattle.pass_forms.proofs.{Common.common_steps, FieldLemmas.{bind_some, caveat_key, caveat_location_key, identifier_key, length-packet, location_key}}
use Rattle.pass_forms.proofs.{FieldLemmas.{packet_again, packet_other, packet_takes, signature_key, verifier_id_key}, ReadingLemmas.{Exact, caveats_again}}
use Rattle.pass_forms.{proofs.ReadingLemmas.{caveats_fit, caveats_take, exactly, last_takes, made, whole_again, whole_parts}, specs.Laws.ReadsExactly}
use Rattle.pass_forms.specs.{V1.{FitsCaveat, FitsPackets, packets_of, optional_packet}, computed.{Parts.found_or_none, V1Reading.{caveat_at, header_at}}}
use Rattle.pass_forms.specs.computed.V1Reading.{packet_at, reading_v1, signature_at, wide_at, optional_at}

optional_takes : (key bytes : List ℕ) → (bytes ≡ optional_packet key (optional_at key bytes).0 ++ (optional_at key bytes).1)
    × IfSome (optional_at key bytes).0 (FitsPacket key)
optional_takes key bytes = by_read (packet_at key bytes) refl
  where
    by_read : (read : Option (List ℕ × List ℕ)) → packet_at key bytes ≡ read →
        (bytes ≡ optional_packet key (found_or_none bytes read).0 ++ (found_or_none bytes read).1) × IfSome (found_or_none bytes read).0 (FitsPacket key)
    by_read None e = (refl, tt)
    by_read (Some found) e = packet_takes key bytes found.0 found.1 e

packets_assoc : (caveat : WideCaveat) (rest : List ℕ) → caveat_packets caveat ++ rest ≡ packet caveat_key caveat.identifier
    ++ (optional_packet verifier_id_key caveat.verifier_id ++ (optional_packet caveat_location_key caveat.location ++ rest))
packets_assoc caveat rest = simp append_assoc

caveat_takes : (bytes : List ℕ) (found : WideCaveat × List ℕ) → caveat_at bytes ≡ Some found → (bytes ≡ caveat_packets found.0 ++ found.1) × FitsCaveat found.0
unfolding caveat_at
caveat_takes bytes found e =
    let i = bind_some _ _ found e in
    let v = optional_at verifier_id_key i.0.1 in
    let l = optional_at caveat_location_key v.1 in
    let ti = packet_takes caveat_key bytes i.0.0 i.0.1 i.1 in
    let tv = optional_takes verifier_id_key i.0.1 in
    let tl = optional_takes caveat_location_key v.1 in
    let caveat : WideCaveat = record { identifier = i.0.0; verifier_id = v.0; location = l.0 } in
    let parts : bytes ≡ packet caveat_key i.0.0 ++ (optional_packet verifier_id_key v.0 ++ (optional_packet caveat_location_key l.0 ++ l.1)) =
    cc (ti.0, tv.0, tl.0) in
    let whole : bytes ≡ caveat_packets caveat ++ l.1 = parts ∙ sym (packets_assoc caveat l.1) in
    let fits : FitsCaveat caveat = record { identifier = ti.1; verifier_id = tv.1; location = tl.1 } in
    subst (λ (x : WideCaveat × List ℕ). (bytes ≡ caveat_packets x.0 ++ x.1) × FitsCaveat x.0) (same_Some (caveat, l.1) found i.2) (whole, fits)

-- `EndsCaveat rest` means that `rest` doesn't begin with a verifier id's packet or a caveat
-- location's packet.
pub record EndsCaveat (rest : List ℕ) : Type 0 where
  pub verifier_id : packet_at verifier_id_key rest ≡ None
  pub location : packet_at caveat_location_key rest ≡ None

optional_again : (key : List ℕ) (text : Option (List ℕ)) (rest : List ℕ) → IfSome text (FitsPacket key) → packet_at key rest ≡ None →
    optional_at key (optional_packet key text ++ rest) ≡ (text, rest)
optional_again key text rest fits none = grind (arith, packet_again)

no_verifier_id : (location : Option (List ℕ)) (rest : List ℕ) → EndsCaveat rest →
    packet_at verifier_id_key (optional_packet caveat_location_key location ++ rest) ≡ None
no_verifier_id location rest ends = grind (arith, ends.verifier_id, packet_other verifier_id_key caveat_location_key)

caveat_again : (caveat : WideCaveat) (rest : List ℕ) → FitsCaveat caveat → EndsCaveat rest → caveat_at (caveat_packets caveat ++ rest) ≡ Some (caveat, rest)
unfolding caveat_at
caveat_again caveat rest fits ends = search (rules, optional_again, no_verifier_id, packets_assoc, packet_again)

caveat_ends : (caveat : WideCaveat) (rest : List ℕ) → FitsCaveat caveat → EndsCaveat (caveat_packets caveat ++ rest)
caveat_ends caveat rest fits = record {
  verifier_id = rw append_assoc (packet_other verifier_id_key caveat_key caveat.identifier _ (λ tail. refl));
  location = rw append_assoc (packet_other caveat_location_key caveat_key caveat.identifier _ (λ tail. refl));
}

pub exact_caveats : Exact caveat_at caveat_packets FitsCaveat EndsCaveat
exact_caveats = record { takes = caveat_takes; again = caveat_again; next = caveat_ends }

pub caveat_has_bytes : (caveat : WideCaveat) → 1 ≤ length (caveat_packets caveat)
caveat_has_bytes caveat = grind (arith, common_steps, length-packet)

signature_takes : (bytes signature : List ℕ) → signature_at bytes ≡ Some signature → (bytes ≡ packet signature_key signature) × (length signature ≡ 32)
unfolding signature_at
signature_takes bytes signature e =
    let s = last_takes (packet_at signature_key bytes) signature e in
    ((packet_takes signature_key bytes signature [] s.0).0 ∙ append-nil (packet signature_key signature), s.1)

signature_ends : (signature : List ℕ) → EndsCaveat (packet signature_key signature)
signature_ends signature = record {
  verifier_id = rw (← append-nil (packet signature_key signature)) (packet_other verifier_id_key signature_key signature [] (λ tail. refl));
  location = rw (← append-nil (packet signature_key signature)) (packet_other caveat_location_key signature_key signature [] (λ tail. refl));
}

signature_is_no_caveat : (signature : List ℕ) → caveat_at (packet signature_key signature) ≡ None
unfolding caveat_at
signature_is_no_caveat signature = rw (← append-nil (packet signature_key signature), packet_other caveat_key signature_key signature [] (λ tail. refl)) refl

header_takes : (bytes : List ℕ) (header : List ℕ × List ℕ × List ℕ) → header_at bytes ≡ Some header →
    (bytes ≡ packet location_key header.0 ++ (packet identifier_key header.1 ++ header.2)) × FitsPacket location_key header.0 × FitsPacket identifier_key
    header.1
unfolding header_at
header_takes bytes header e =
    let l = bind_some _ _ header e in
    let i = bind_some _ _ header l.2 in
    let tl = packet_takes location_key bytes l.0.0 l.0.1 l.1 in
    let ti = packet_takes identifier_key l.0.1 i.0.0 i.0.1 i.1 in
    let found : List ℕ × List ℕ × List ℕ = (l.0.0, i.0.0, i.0.1) in
    subst (λ (h : List ℕ × List ℕ × List ℕ). (bytes ≡ packet location_key h.0 ++ (packet identifier_key h.1 ++ h.2)) × FitsPacket location_key h.0
    × FitsPacket identifier_key h.1) (same_Some found header i.2) (tl.0 ∙ ap (λ (x : List ℕ). packet location_key l.0.0 ++ x) ti.0, tl.1, ti.1)

header_again : (location identifier rest : List ℕ) → FitsPacket location_key location → FitsPacket identifier_key identifier →
    header_at (packet location_key location ++ (packet identifier_key identifier ++ rest)) ≡ Some (location, identifier, rest)
unfolding header_at
header_again location identifier rest fl fi = search (rules, packet_again)

wide_takes : (bytes : List ℕ) (wide : WidePass) → wide_at bytes ≡ Some wide → SpellsV1 bytes wide
wide_takes bytes wide e =
    let p = whole_parts header_at caveat_at signature_at bytes wide e in
    let read = caveats_at caveat_at (length p.header.2) p.header.2 in
    let h = header_takes bytes p.header p.at_header in
    let c = caveats_take caveat_at caveat_packets FitsCaveat EndsCaveat exact_caveats (length p.header.2) p.header.2 in
    let s = signature_takes read.1 p.signature p.at_footer in
    let parts : bytes ≡ packets_of (made p.header read.0 p.signature) = cc (h.0, c.0, s.0) in
    let fits : FitsPackets (made p.header read.0 p.signature) = record { location = h.1; identifier = h.2; caveats = c.1; signature = s.1 } in
    let spelling : SpellsV1 bytes (made p.header read.0 p.signature) = record { packets = parts; fits = fits } in
    subst (λ (w : WidePass). SpellsV1 bytes w) p.whole spelling

wide_again : (bytes : List ℕ) (wide : WidePass) → SpellsV1 bytes wide → wide_at bytes ≡ Some wide
unfolding signature_at
wide_again bytes wide spelling =
    let fits = spelling.fits in
    let last = packet signature_key wide.signature in
    let caveats = flat_map caveat_packets wide.caveats ++ last in
    let fuel : length wide.caveats ≤ length caveats =
    omega (arith, caveats_fit caveat_packets caveat_has_bytes wide.caveats, length-append (flat_map caveat_packets wide.caveats) last) in
    let h = ap header_at spelling.packets ∙ header_again wide.location wide.identifier caveats fits.location fits.identifier in
    let c = caveats_again caveat_at caveat_packets FitsCaveat EndsCaveat exact_caveats (length caveats) wide.caveats last fuel fits.caveats
    (signature_ends wide.signature) (signature_is_no_caveat wide.signature) in
    whole_again header_at caveat_at signature_at bytes (wide.location, wide.identifier, caveats) wide.caveats last wide.signature h c
    (rw (← append-nil (packet signature_key wide.signature)) (rw (packet_again signature_key wide.signature [] (omega arith), fits.signature) refl))

pub computes_v1 : ComputesSpelled SpellsV1 wide_at
computes_v1 bytes wide = (wide_again bytes wide, wide_takes bytes wide)

pub reads_v1 : ReadsExactly SpellsV1 reading_v1
unfolding reading_v1
reads_v1 bytes = exactly (length bytes) (SpellsV1 bytes) (wide_at bytes) (computes_v1 bytes)
