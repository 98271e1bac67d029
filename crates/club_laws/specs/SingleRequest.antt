-- Laws about the answer to a single request.
use Rattle.std.specs.Prelude.{◌≡◌, ℕ, List, ◌++◌, Option, Some, None, Result, Ok, Err}
use Rattle.club_core.specs.{Answer.{form_refusal, verdict_in}, Basis.basis_of, Club.{Club, key_named}, Laws.{IsServed, IsEntitled}, Request.{Pass, Words}}
use Rattle.club_core.specs.{Request.IsSignedUnder, Run.{Asked, step}, Verdict.refusal_verdict, declared.pass_fault.PassFault.PassFault}
use Rattle.club_core.specs.declared.{refusal.Refusal.{Refusal, TheVariants.NotVerified}, request.Request.Request}
use Rattle.club_rows.specs.declared.key.Key.{Key}
use Rattle.pass_caveats.specs.declared.caveat.Caveat.{Caveat}

-- Two clubs with the same basis for a request give the same answer at the same moment. A basis is
-- the set of rows that an answer may depend on.
abbrev pub DependsOnTheBasisAlone : Type 0
DependsOnTheBasisAlone =
    (words : Words) (moment : ℕ) (a b : Club) → basis_of a words ≡ basis_of b words → verdict_in a words moment ≡ verdict_in b words moment

-- The refusal of a request without a basis. If the text isn't a pass, the refusal names the fault
-- of the text. Otherwise, the refusal is `NotVerified`.
abbrev pub blind_refusal : Result Pass PassFault → Refusal
blind_refusal (Err fault) = form_refusal fault
blind_refusal (Ok pass) = NotVerified

-- A request without a basis gets the refusal `blind_refusal`. This refusal depends only on the
-- decoded pass.
abbrev pub RefusesWithoutABasis : Type 0
RefusesWithoutABasis =
    (words : Words) (moment : ℕ) (club : Club) → basis_of club words ≡ None → verdict_in club words moment ≡ refusal_verdict (blind_refusal words.pass)

-- Suppose that a pass names a key of the club, but none of the key's roots that are valid at the
-- moment signs the pass. Then the reply is the refusal `NotVerified`.
abbrev pub RefusesTheUnsigned : Type 0
RefusesTheUnsigned =
    (words : Words) (moment : ℕ) (club : Club) (pass : Pass) (key : Key)
    → words.pass ≡ Ok pass
    → pass.key ≡ Some key.name
    → key_named key.name club ≡ Some key
    → ¬ IsSignedUnder pass key moment
    → verdict_in club words moment ≡ refusal_verdict NotVerified

-- The club serves a request only if the pass entitles its holder to the request. The same holds for
-- repeated requests.
abbrev pub ServesOnlyTheEntitled : Type 0
ServesOnlyTheEntitled =
    (words : Words) (moment : ℕ) (club : Club) → IsServed (verdict_in club words moment).reply → IsEntitled club words moment

-- A request with this decoded pass.
abbrev pub words_with : Pass → Request → Words
words_with pass request = record { pass = Ok pass; request = request }

-- The wide pass and the narrow pass name the same key of the club. The narrow pass has the caveats
-- of the wide pass, followed by more caveats. The wide pass is signed under a root of this key, and
-- the root is valid at the moment. If a request is served under the narrow pass, the same request
-- gets the same answer under the wide pass.
abbrev pub MoreCaveatsNeverOpenMore : Type 0
MoreCaveatsNeverOpenMore =
    (wide narrow : Pass) (more : List (Option Caveat)) (key : Key) (request : Request) (moment : ℕ) (club : Club)
    → wide.key ≡ Some key.name
    → narrow.key ≡ Some key.name
    → narrow.caveats ≡ wide.caveats ++ more
    → key_named key.name club ≡ Some key
    → IsSignedUnder wide key moment
    → IsServed (verdict_in club (words_with narrow request) moment).reply
    → verdict_in club (words_with wide request) moment ≡ verdict_in club (words_with narrow request) moment

-- The reply to a request and the club after the request don't depend on the form of the pass's
-- text.
abbrev pub AnswersFormsAlike : Type 0
AnswersFormsAlike =
    (club : Club) (a b : Words) (moment : ℕ)
    → a.pass ≡ b.pass
    → a.request ≡ b.request
    → step club (Asked a moment) ≡ step club (Asked b moment)
