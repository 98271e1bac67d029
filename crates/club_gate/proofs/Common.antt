-- Re-exports the names that most proofs in this crate use. Declares no names.
pub use Rattle.std.proofs.Common.{◌≡◌, ◌∙◌, sym, refl, List, Some, ℕ, Option, Ok, ◌∷◌, ap, true, [], None, Err, Result, false, subst, inl, inr, length, rules}
pub use Rattle.std.{proofs.{Common.{map, ◌++◌, arith, Bool, All, ◌≤◌, IfOk, take}, lemmas.List.Elements.{All-head, All-nil}}, specs.Str.bytes_eq}
pub use Rattle.club_core.specs.{Answer.verdict_in, Club.{Club, IsSound}, Run.IsEvent, declared.store.StoreFault.StoreFault}
pub use Rattle.club_gate.specs.{Desk.{Steps, FitsIfAny}, Runs.{IsEventOfBytes, responses_of}, computed.DecodedPass.{decoded_words, machine_events}}
pub use Rattle.pass_forms.specs.{FieldSource.pass_fields, Pass.Plain, declared.form.Form.Form}
pub use Rattle.pass_json.specs.computed.AnyForm.{reading, reading_in_form}
