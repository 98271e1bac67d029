-- Defines how contracts represent the code's lists of rows as a club.
use Rattle.club_core.specs.{Club.Club as Rows, Run.{Outcome, EventReply}}
use Rattle.club_reference.specs.declared.club.Club.TheInside.{Inside}

abbrev pub rows_of : Inside → Rows
rows_of club = record {
  members = club.members.items;
  facilities = club.facilities.items;
  keys = club.keys.items;
  bookings = club.bookings.items;
  closed = club.closed.items;
}

-- The outcome of a step: the reply, and the club after the step.
abbrev pub outcome : EventReply → Rows → Outcome
outcome reply club = record { reply = reply; club = club }
