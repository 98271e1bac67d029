-- Laws about repeated requests. An accepted repeat of a served booking or cancellation changes
-- nothing.
use Rattle.club_core.specs.declared.request.Request.TheVariants as asked
use Rattle.std.specs.Prelude.{Some, if◌then◌else◌, ◌≡◌, ℕ, List, ◌∷◌, ◌++◌}
use Rattle.club_core.specs.{Basis.key_of, Club.{Club, booking_under}, Laws.IsAcceptedIn, Request.Words, Run.{Commanded, ToOffice, Event, Asked, step}}
use Rattle.club_core.specs.{Run.{replies_of, club_after, EventReply, ToMember}, declared.command.Command.TheVariants.CancelBooking}
use Rattle.club_core.specs.declared.{command.OfficeAnswer.TheVariants.Done, reply.Reply.{Reply, TheVariants.{Booked, Cancelled}}}
use Rattle.club_rows.specs.declared.booking.Booking.{Booking}

-- The reply confirms a booking or a cancellation.
abbrev pub IsBookedOrCancelled : Reply → Type 0
IsBookedOrCancelled (Booked key number charge left) = Unit {0}
IsBookedOrCancelled (Cancelled key number refund) = Unit {0}
IsBookedOrCancelled reply = ⊥

-- The history contains a request to book or cancel that was served with this reply. `words`
-- contains the same request, and a pass that names the same key.
pub record WasServed (club : Club) (history : List Event) (words : Words) (reply : Reply) : Type 0 where
  pub front : List Event
  pub first : Words
  pub moment : ℕ
  pub rest : List Event
  pub place : history ≡ front ++ Asked first moment ∷ rest
  pub reply_is : (step (club_after club front) (Asked first moment)).reply ≡ ToMember reply
  pub success : IsBookedOrCancelled reply
  pub same_key : key_of words.pass ≡ key_of first.pass
  pub same_request : words.request ≡ first.request

-- An accepted repeat of a served request gets the same reply and changes nothing. Other events may
-- come between the request and its repeat, and the repeat may come at any moment.
abbrev pub RepeatsReturnTheSame : Type 0
RepeatsReturnTheSame =
    (club : Club) (history : List Event) (words : Words) (moment : ℕ) (reply : Reply)
    → WasServed club history words reply
    → IsAcceptedIn (club_after club history) words moment
    → step (club_after club history) (Asked words moment) ≡ record { reply = ToMember reply; club = club_after club history }

-- Removing this event from the run changes neither the other replies nor the last club.
pub record MayBeLeftOut (club : Club) (front : List Event) (event : Event) (rest : List Event) (reply : EventReply) : Type 0 where
  pub replies : replies_of club (front ++ event ∷ rest) ≡ replies_of club front ++ reply ∷ replies_of (club_after club front) rest
  pub others : replies_of club (front ++ rest) ≡ replies_of club front ++ replies_of (club_after club front) rest
  pub kept : club_after club (front ++ event ∷ rest) ≡ club_after club (front ++ rest)

abbrev pub RepeatsMayBeLeftOut : Type 0
RepeatsMayBeLeftOut =
    (club : Club) (history : List Event) (words : Words) (moment : ℕ) (reply : Reply) (rest : List Event)
    → WasServed club history words reply
    → IsAcceptedIn (club_after club history) words moment
    → MayBeLeftOut club history (Asked words moment) rest (ToMember reply)

-- The office cancelled a booking within the history. `booking` is the booking's row before the
-- cancellation.
pub record WasCancelled (club : Club) (history : List Event) (key : List ℕ) (number : ℕ) (booking : Booking) : Type 0 where
  pub front : List Event
  pub rest : List Event
  pub place : history ≡ front ++ Commanded (CancelBooking key number) ∷ rest
  pub reply_is : (step (club_after club front) (Commanded (CancelBooking key number))).reply ≡ ToOffice Done
  pub found : booking_under key number (club_after club front).bookings ≡ Some booking

-- The recorded refund after a cancellation by the office. The refund is the whole charge, or the
-- earlier refund if the booking was already cancelled.
abbrev pub refund_by_office : Booking → ℕ
refund_by_office booking = if booking.cancelled then booking.refund else booking.charge

-- If the office has cancelled a booking, a member's accepted request to cancel the same booking
-- changes nothing. The reply states the recorded refund. The request may come at any moment.
abbrev pub CancellationsReturnTheRecord : Type 0
CancellationsReturnTheRecord =
    (club : Club) (history : List Event) (words : Words) (moment : ℕ) (key : List ℕ) (number : ℕ) (booking : Booking)
    → WasCancelled club history key number booking
    → key_of words.pass ≡ Some key
    → words.request ≡ asked.Cancel booking.slot number
    → IsAcceptedIn (club_after club history) words moment
    → step (club_after club history) (Asked words moment)
    ≡ record { reply = ToMember (Cancelled key number (refund_by_office booking)); club = club_after club history }
