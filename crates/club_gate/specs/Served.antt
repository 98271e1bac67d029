-- The law of the desk: the properties that each reply to a request has.
use Rattle.std.specs.Prelude.{◌≡◌, ◌≢◌, ℕ, false, List, ◌++◌, Some, None, Ok, Err}
use Rattle.base64.specs.GeneralPurpose.{IsBytes}
use Rattle.club_core.specs.{Answer.{ask_of, form_refusal, verdict_in}, Basis.{Basis, basis_of, basis_under, view_of}, Club.{Club, key_named}, Laws.IsServed}
use Rattle.club_core.specs.{Request.{IsGoodRoot, Words}, declared.{refusal.Refusal.TheVariants.Unavailable, reply.Reply.{Reply, TheVariants.Refused}}}
use Rattle.club_core.specs.declared.request.Request.{Request}
use Rattle.club_gate.specs.DecodedPass.{AreWordsOf, fault_of, identifier_of}
use Rattle.club_laws.specs.SingleRequest.{blind_refusal}
use Rattle.club_rows.specs.declared.key.Key.{Key}
use Rattle.club_values.specs.Name.{IsName}
use Rattle.pass_caveats.specs.Fault.{Allowed}
use Rattle.pass_forms.specs.{Envelope.IsUnwrapped, Pass.{Plain, IsSigned}, declared.{fault.FormFault.FormFault, form.Form.{Form, TheVariants.Json}}}
use Rattle.pass_json.specs.AnyForm.{IsAnyReading}

-- The pass is signed under the key's root, or under the key's older root before the older root
-- expires.
pub record IsSignedFor (pass : Plain) (key : Key) (moment : ℕ) : Type 0 where
  pub root : List ℕ
  pub good : IsGoodRoot key moment root
  pub signed : IsSigned root pass

-- The text encodes a pass that entitles its holder to the request:
-- - The identifier names a key of the club, and this key isn't revoked.
-- - The pass is signed under a good root of this key (`IsSignedFor`).
-- - Each caveat allows the request, given the club's rows for this key.
pub record EntitlesTo (club : Club) (text : List ℕ) (request : Request) (moment : ℕ) : Type 0 where
  pub form : Form
  pub pass : Plain
  pub read : IsAnyReading text (Ok (form, pass))
  pub key : Key
  pub key_name : IsName key.name
  pub key_identifier : pass.identifier ≡ identifier_of key.name
  pub row : key_named key.name club ≡ Some key
  pub not_revoked : key.revoked ≡ false
  pub signed : IsSignedFor pass key moment
  pub basis : Basis
  pub known : basis_under club request key ≡ Some basis
  pub permission : Allowed pass.caveats (ask_of (view_of basis request moment) request moment)

-- The reply is the same for every club that has the same rows for the decoded pass and the request.
abbrev pub DependsOnTheBasis : Club → List ℕ → Request → ℕ → Reply → Type 0
DependsOnTheBasis club text request moment reply =
    (words : Words) (other : Club) → AreWordsOf text request words → basis_of other words ≡ basis_of club words
    → reply ≢ Refused Unavailable → reply ≡ (verdict_in other words moment).reply

-- If the club has no rows for the decoded pass and the request, the reply is the fault of the text
-- or `NotVerified`.
abbrev pub IsBlind : Club → List ℕ → Request → Reply → Type 0
IsBlind club text request reply =
    (words : Words) → AreWordsOf text request words → basis_of club words ≡ None
    → reply ≢ Refused Unavailable → reply ≡ Refused (blind_refusal words.pass)

-- Any other text that encodes the same pass gets the same reply. The two texts may have different
-- forms.
abbrev pub AnswersItsForms : Club → List ℕ → Request → ℕ → Reply → Type 0
AnswersItsForms club text request moment reply =
    (other : List ℕ) (words : Words) (form other_form : Form) (pass : Plain) → IsBytes other
    → IsAnyReading text (Ok (form, pass)) → IsAnyReading other (Ok (other_form, pass)) → AreWordsOf other request words
    → reply ≢ Refused Unavailable → reply ≡ (verdict_in club words moment).reply

-- The narrow text encodes the wide text's pass plus additional caveats. The narrow pass and the
-- wide pass have the same identifier. The wide pass is signed under a good root of the key that the
-- identifier names.
pub record IsNarrowedText (club : Club) (wide narrow : List ℕ) (moment : ℕ) : Type 0 where
  pub form : Form
  pub other_form : Form
  pub pass : Plain
  pub other_pass : Plain
  pub more : List (List ℕ)
  pub key : Key
  pub wide_read : IsAnyReading wide (Ok (form, pass))
  pub narrow_read : IsAnyReading narrow (Ok (other_form, other_pass))
  pub identifier : other_pass.identifier ≡ pass.identifier
  pub caveats : other_pass.caveats ≡ pass.caveats ++ more
  pub key_identifier : pass.identifier ≡ identifier_of key.name
  pub row : key_named key.name club ≡ Some key
  pub signed : IsSignedFor pass key moment

-- If a request with a narrow text is served, the same request with the wide text gets the same
-- reply.
abbrev pub OpensNoMore : Club → List ℕ → Request → ℕ → Reply → Type 0
OpensNoMore club text request moment reply =
    (wide : List ℕ) (words : Words) → IsBytes wide → IsNarrowedText club wide text moment → AreWordsOf wide request words
    → IsServed reply → reply ≡ (verdict_in club words moment).reply

-- The law of the desk for one reply.
pub record IsLawful (club : Club) (text : List ℕ) (request : Request) (moment : ℕ) (reply : Reply) : Type 0 where
  -- A request is served only if its pass entitles the holder to the request.
  pub entitles : IsServed reply → EntitlesTo club text request moment
  -- The reply depends only on the decoded pass, the request, the moment, and the club's rows for
  -- the pass and the request.
  pub depends : DependsOnTheBasis club text request moment reply
  -- If the club has no rows for the pass and the request, the reply depends only on the pass.
  pub blind : IsBlind club text request reply
  -- The same pass in another form gets the same reply.
  pub forms : AnswersItsForms club text request moment reply
  -- A request that is served under a pass with added caveats gets the same reply under the original
  -- pass.
  pub less : OpensNoMore club text request moment reply

-- The text is in JSON. Parsing JSON needs memory, but the other forms are parsed without memory.
abbrev pub IsJson : List ℕ → Type 0
IsJson text = (bytes : List ℕ) × IsUnwrapped text (Ok (Json, bytes))

-- If a text isn't JSON and doesn't encode a pass, the reply always states the fault in the text, and
-- is never `Unavailable`.
abbrev pub RefusesByFormFault : List ℕ → Reply → Type 0
RefusesByFormFault text reply =
    (fault : FormFault) → ¬ IsJson text → IsAnyReading text (Err fault) → reply ≡ Refused (form_refusal (fault_of fault))
