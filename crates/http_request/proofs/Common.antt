-- This file only exports the names that most proofs of this crate use.
pub use Rattle.std.proofs.Common.{◌≡◌, ℕ, List, ◌∙◌, false, ap, sym, ◌<◌, length, arith, true, ◌∷◌, refl, drop, take, cond, [], Option, Some, inr, ◌≤◌, Bool}
pub use Rattle.std.proofs.Common.{None, inl, ◌++◌, ◌-◌, codes, nat_eq, length-append, ◌==◌, ◌&&◌, Result, eqb, leb, append-nil, IsSome, ◌↔◌, append_assoc}
pub use Rattle.std.proofs.{Common.{nat_le, IfSome, Bor, subst, IsTrue, zero, suc, ◌⊎◌}, lemmas.Bool.{eqb-true, cases_order, cond-true, cases_lt, le-leb}}
pub use Rattle.std.proofs.lemmas.{Bool.{leb-true, and_right, Decides.nat_tests}, List.{take-append-drop, length-take-le, length-drop, take-append-le}}
pub use Rattle.std.specs.{List.{ends_with, list_all}, Option.{is_some, unwrap_or}, Str.{bytes_eq, is_utf8, IsUtf8}}
pub use Rattle.http_request.specs.{Body.only_named, Fields.values_in_head, Frame.{IsFramed, IsRefusedHead, HasNoPiece, AsksForBody, IsOneRequest, endless}}
pub use Rattle.http_request.specs.{Frame.{IsWhole, bad_head, has_frame, empty_line, IsPiece, IsHeadOf, IsHeadAt, IsHeadResultOf}, Laws.ReadsPlaces}
pub use Rattle.http_request.specs.{Laws.{OneReading, WholeKeepsItsReading}, Path.{segments, with_front, following_parts}, computed.Path.{account_at, place_of}}
pub use Rattle.http_request.specs.{computed.Path.{under_root, under_slots, at_slot}, declared.head_result.Head.Head}
pub use Rattle.httparse.specs.{Grammar.RequestHead, declared.spans.HeaderSpan.HeaderSpan}
unfoldable pub use Rattle.http_request.specs.Body.{guests_in, json_value_of}
