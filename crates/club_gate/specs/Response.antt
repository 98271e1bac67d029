-- The desk's responses to events, computed from the machine's replies.
use Rattle.club_core.specs.declared.command.OfficeAnswer.TheVariants as answers
use Rattle.club_core.specs.declared.reply.Reply.TheVariants as member_replies
use Rattle.club_gate.specs.declared.event.OfficeReply.TheVariants as replies
use Rattle.club_gate.specs.declared.fault.Fault.TheVariants as faults
use Rattle.std.specs.Prelude.{ℕ, Bool, true, false, List, ◌++◌, codes, Result, Ok, Err}
use Rattle.club_core.specs.{Refusal.{office_fault_text, store_fault_text}, Run.{Response, ToMember, ToOffice}, declared.command.OfficeAnswer.OfficeAnswer}
use Rattle.club_core.specs.declared.{refusal.Refusal.TheVariants.Unavailable, reply.Reply.Reply, store.StoreFault.StoreFault}
use Rattle.club_gate.specs.{DecodedPass.minted_signature, declared.event.{EventReply.{EventReply, TheVariants.{Replied, Answered}}, OfficeReply.OfficeReply}}
use Rattle.club_gate.specs.declared.fault.Fault.{Fault}
use Rattle.club_laws.specs.Failed.{Presentation}

abbrev pub desk_fault_text : Fault → List ℕ
desk_fault_text (faults.Refused fault) = office_fault_text fault
desk_fault_text (faults.Store fault) = store_fault_text fault

-- The text that `Debug` prints for a reply to the office. The text contains no byte of a signature.
abbrev pub debug_text : OfficeReply → List ℕ
debug_text replies.Done = codes "Done"
debug_text (replies.Key signature) = codes "Key(..)"
debug_text (replies.Refused fault) = codes "Refused(" ++ desk_fault_text fault ++ codes ")"

-- The reply to a member's request if memory ran out or storage failed.
abbrev pub unavailable : Reply
unavailable = member_replies.Refused Unavailable

-- The reply to the office, computed from the answer of the rules. For a new key or a new root, the
-- reply contains the signature of the key's pass without caveats.
abbrev pub office_reply_of : OfficeAnswer → OfficeReply
office_reply_of answers.Done = replies.Done
office_reply_of (answers.NewKey name root) = replies.Key (minted_signature name root)
office_reply_of (answers.NotDone fault) = replies.Refused (faults.Refused fault)

-- Tests whether a reply to the office is a fault of the store: memory ran out or storage failed.
abbrev pub is_failure : OfficeReply → Bool
is_failure (replies.Refused (faults.Store fault)) = true
is_failure reply = false

abbrev pub desk_presentation : Presentation OfficeReply
desk_presentation = record { shown = office_reply_of; is_fault = is_failure }

-- The response to an event, computed from the desk's reply.
abbrev pub response_of : EventReply → Response OfficeReply
response_of (Replied reply) = ToMember reply
response_of (Answered reply) = ToOffice reply

-- The reply to a member's request. If the store failed, the reply is `Unavailable`.
abbrev pub reply_or_unavailable : Result Reply StoreFault → Reply
reply_or_unavailable (Ok reply) = reply
reply_or_unavailable (Err fault) = unavailable

-- The reply to a command of the office. If the store failed, the reply is the fault of the store.
abbrev pub answer_or_fault : Result OfficeAnswer StoreFault → OfficeReply
answer_or_fault (Ok answer) = office_reply_of answer
answer_or_fault (Err fault) = replies.Refused (faults.Store fault)
