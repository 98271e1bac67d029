use Rattle.pass_json.proofs.object.pass_from.Goals as goal
use Rattle.std.proofs.{Common.{Bool, Global, List, Vec, [], ap, arith, codes, length, map, sym, true, ℕ, ◌∙◌, ◌≡◌, Option, Some}, lemmas.Grind.common_steps}
use Rattle.std.{proofs.lemmas.List.length-map, specs.Option.{option_map, unwrap_or}}
use Rattle.pass_forms.specs.computed.Reading.{pass_summary}
use Rattle.pass_json.specs.{Json.pass_names, computed.JsonReading.{field_from, has_only_names, caveat_list, is_version, kept_caveats, must_have, pass_from}}
use Rattle.pass_json.specs.computed.JsonReading.{signature_from}
use Rattle.serde_json.specs.{Data.Data, Find.get}

kept_pass : (value : Data) (location : Option (List ℕ)) (identifier : List ℕ) (identifiers : List (List ℕ)) (third_party : Bool) (signature : List ℕ)
    → has_only_names pass_names value ≡ true → is_version (get (codes "v") value) ≡ true → field_from (codes "l") (codes "l64") value ≡ Some location
    → must_have (field_from (codes "i") (codes "i64") value) ≡ Some identifier → option_map kept_caveats (caveat_list (get (codes "c") value))
    ≡ Some (identifiers, third_party) → signature_from value ≡ Some signature → option_map pass_summary (pass_from value)
    ≡ Some (record { location = unwrap_or location []; identifier = identifier; caveats = identifiers; signature = signature }, length identifiers, third_party)
unfolding pass_from
kept_pass value location identifier identifiers third_party signature only version is_location is_identifier are_caveats is_signature =
    grind (arith, common_steps)

abbrev items : Vec ℕ Global → List ℕ
items v = v.items

pub returns-clause-ok : goal.returns-clause-ok
returns-clause-ok c =
    let h = kept_pass _ _ _ _ _ _ (cc (c.has_only_names.ensures, c.if-not-has_only_names.false))
    (cc (c.is_version.ensures, c.if-not-is_version.false)) c.in_ok-location.ensures.ok c.in_ok-identifier.ensures.ok c.in_ok-caveats.ensures.ok
    c.in_ok-signature.ensures.ok in
    let location : unwrap_or (option_map items c.in_ok-location.location) [] ≡ c.unwrap_or.result.items =
    (grind arith) ∙ ap items (sym c.unwrap_or.ensures) in
    let count : length (map items c.in_ok-caveats.caveats.identifiers.items) ≡ c.len.result =
    grind (arith, common_steps, c.len.ensures, length-map c.in_ok-caveats.caveats.identifiers.items items) in
    rw (c.new-2.ensures, ← location, ← count) h
