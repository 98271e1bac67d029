use Rattle.http_request.proofs.Common.{Bool, IsUtf8, List, None, Option, cond, false, inr, is_utf8, json_value_of, refl, true, ℕ, ◌≡◌}
use Rattle.std.proofs.lemmas.Str.{IsUtf8-from_is_utf8, is_utf8-from_IsUtf8}
use Rattle.serde_json.specs.{Data.Data, Read.read}
use Rattle.http_request.proofs.body.json_value_of.Goals as goal

no_value : (bytes : List ℕ) (test : Bool) (found : Option Data) → is_utf8 bytes ≡ test → (IsUtf8 bytes → found ≡ None) → cond test found None ≡ None
no_value bytes true found e none = none (IsUtf8-from_is_utf8 bytes e)
no_value bytes false found e none = refl

pub returns-in-Ok-clause-ok : goal.returns-in-Ok-clause-ok
unfolding json_value_of
returns-in-Ok-clause-ok c = rw (is_utf8-from_IsUtf8 c.args.bytes.now c.in-Ok.ensures.ok.0) c.in-Ok.ensures.ok.1

pub returns-else-is_memory-clause-err : goal.returns-else-is_memory-clause-err
unfolding json_value_of
returns-else-is_memory-clause-err c = inr (
  refl,
  no_value c.args.bytes.now (is_utf8 c.args.bytes.now) (read c.args.bytes.now) refl (c.in-Err.ensures.err (λ memory. let h = c.is_memory.ensures.1 memory in
      let k = rw c.if-is_memory.false at h in cc)),
)
