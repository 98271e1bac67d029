use Rattle.club_gate.proofs.desk.Desk.is_signed.Given as given
use Rattle.club_gate.proofs.desk.Desk.is_signed.Goals as goal
use Rattle.std.proofs.Common.{drop}
use Rattle.club_core.specs.Club.{older_root_of, key_named}
use Rattle.club_gate.proofs.Common.{Bool, List, Plain, [], ap, arith, pass_fields, refl, rules, sym, ℕ, ◌++◌, ◌∙◌, ◌∷◌, ◌≡◌, Club, Option, Some, bytes_eq, map}
use Rattle.club_gate.proofs.{DeskLemmas.reads, desk.Desk.is_signed.Goals.After-is_signed_by}
use Rattle.club_rows.specs.{Rows.{row_of_key, key_of_row, older_root_at}, declared.key.{Key.Key, KeyRow.KeyRow, OlderRoot.OlderRoot}}
use Rattle.pass_forms.specs.{FieldSource.{PassField, caveat_field, signature_field}, computed.Reading.is_signed}
use Rattle.pass_mac.specs.Chain.{chain, derived_key, extended_signature}

-- The Boolean `answer` is true if and only if the signature of the pass is the last signature of
-- the chain. The chain starts from the signature `start` and has one signature for each caveat.
abbrev EndsIn : List ℕ → List PassField → Bool → Type 0
EndsIn start fields answer = (caveats : List (List ℕ)) (signature : List ℕ) → fields ≡ map caveat_field caveats ++ signature_field signature ∷ []
    → answer ≡ bytes_eq (extended_signature start caveats) signature

module _ (pass : Plain) (identifier : List ℕ) (fields : List PassField) (named : identifier ≡ pass.identifier) (left : fields ≡ drop 2 (pass_fields pass)) where
  signed_by : (root derived start : List ℕ) (answer : Bool) → derived ≡ derived_key root → start ≡ chain derived identifier []
      → EndsIn start fields answer → answer ≡ is_signed root pass
  unfolding is_signed
  signed_by root derived start answer d s ends = grind arith

older_of : (club : Club) (key : Key) (row : KeyRow) (older : Option OlderRoot) (whole : Key) (moment : ℕ) → key_named key.name club ≡ Some key → row
    ≡ row_of_key key → older ≡ older_root_of row.name club → whole ≡ key_of_row row older → older_root_at whole.older moment ≡ older_root_at key.older moment
older_of club key row older whole moment held same found is = rw (is, found, same, held) refl

by_current : (g : given.Over) (c : After-is_signed_by g) (pass : Plain) (key : Key) → c.args.identifier.now ≡ pass.identifier
    → g.F.FieldSource.left c.args.source.now ≡ drop 2 (pass_fields pass) → c.args.row.now ≡ row_of_key key → is_signed key.root pass ≡ c.is_signed_by.result
by_current g c pass key named left same = rw same at (sym (signed_by pass _ _ named (c.again-fields.ensures ∙ left) c.args.row.now.root _ _ _
    (c.bytes.ensures ∙ ap derived_key c.derived-current.ensures) c.from_key.ensures c.is_signed_by.ensures.of_pass))

pub returns-then-is_signed_by : goal.returns-then-is_signed_by
returns-then-is_signed_by g c = reads g.met.S.ClubStore.sound (search rules) (λ clean club others represents sound pass key named left held same.
    rw (by_current g (goal.at.returns-then-is_signed_by g c).After-is_signed_by pass key named left same, c.if-is_signed_by.true) refl)

pub returns-in_default : goal.returns-in_default
returns-in_default g c = reads g.met.S.ClubStore.sound (search rules) (λ clean club others represents sound pass key named left held same.
    let found = c.in_ok-older_root.ensures.returned clean club others (rw (← c.self.view_is) at represents) in
    let older = c.older_root_at.ensures ∙ older_of club key _ _ c.new-key.result c.args.moment held same found c.new-key.ensures in
    rw (by_current g (goal.at.returns-in_default g c).After-is_signed_by pass key named left same, c.if-is_signed_by.false, ← older, c.in_default.is) refl)

pub returns : goal.returns
returns g c = reads g.met.S.ClubStore.sound (search rules) (λ clean club others represents sound pass key named left held same.
    let found = c.in_ok-older_root.ensures.returned clean club others (rw (← c.self.view_is) at represents) in
    let older = c.older_root_at.ensures ∙ older_of club key _ _ c.new-key.result c.args.moment held same found c.new-key.ensures in
    let derived = c.bytes-2.ensures ∙ ap derived_key c.derived-older.ensures in
    let later = signed_by pass _ _ named (c.again-once_more.ensures ∙ left) c.in-Some.root.now _ _ _ derived
    c.from_key-2.ensures c.is_signed_by-2.ensures.of_pass in
    rw (by_current g (goal.at.returns g c).After-is_signed_by pass key named left same, c.if-is_signed_by.false, ← older, c.in-Some.is, ← later) refl)
