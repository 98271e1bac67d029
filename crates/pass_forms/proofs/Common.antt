-- Re-exports the names that the proofs of this crate use most.
pub use Rattle.std.proofs.Common.{arith, ◌≡◌, ℕ, List, length, refl, [], ◌≤◌, ◌∙◌, ◌++◌, ◌∷◌, ap, sym, append_assoc, ◌+◌, rules, suc, ◌<◌, map, subst, ◌↔◌}
pub use Rattle.std.proofs.{Common.{zero, ◌/◌, ltb, ◌-◌, take, drop, Result, Ok, Option, None, Err, Some}, lemmas.Bool.{lt-ltb, le-ltb, Decides.nat_tests}}
pub use Rattle.std.{proofs.lemmas.{Grind.common_steps, List.{length-append, append-nil}}, specs.List.{flat_map, AllByRecursion}}
pub use Rattle.pass_forms.specs.{Envelope.IsUnwrapped, Laws.ComputesSpelled, Pass.{Plain, WideCaveat, WidePass}, Reading.max_text_len, V1.packet}
pub use Rattle.pass_forms.specs.{V1.{caveat_packets, FitsPacket, SpellsV1}, V2.{field, optional_field, caveat_section, SpellsV2}}
pub use Rattle.pass_forms.specs.declared.{fault.FormFault.{FormFault, TheVariants.{TooLong, Malformed}}, form.Form.Form}
unfoldable pub use Rattle.base64.specs.GeneralPurpose.{decoded_of}
unfoldable pub use Rattle.pass_forms.specs.computed.{Parts.caveats_at, Reading.unwrapping}
