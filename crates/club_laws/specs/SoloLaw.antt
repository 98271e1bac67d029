-- Laws about the replies to a member's requests. A machine that has only the member's part of the
-- club gives the same replies.
use Rattle.std.specs.Prelude.{◌≡◌, ℕ, Bool, true, false, List, [], ◌∷◌, map, if◌then◌else◌}
use Rattle.club_core.specs.{After.after, Club.{Club, IsSound}, Run.{Event, step, after_change, replies_of, club_after, ToMember}}
use Rattle.club_core.specs.Solo.{OwnEvent, OwnAsk, OwnChange, own_part, own_events, part_of, solo_verdict, solo_replies}

-- Whether a member's own event is a request.
abbrev pub is_ask : List OwnEvent → Bool
is_ask (OwnAsk words moment others ∷ events) = true
is_ask events = false

-- The replies to the member's own requests, taken from the replies to all events.
abbrev pub replies_to : {R : Type 0} → List ℕ → Club → List Event → List R → List R
replies_to name club (event ∷ events) (reply ∷ replies) =
    if is_ask (own_part name club event)
    then reply ∷ replies_to name (step club event).club events replies
    else replies_to name (step club event).club events replies
replies_to name club events replies = []

-- In a run from a sound club, a member's part of the club and the member's own events determine the
-- replies to the member's requests.
abbrev pub SoloLaw : Type 0
SoloLaw =
    (name : List ℕ) (club : Club) (events : List Event)
    → IsSound club
    → replies_to name club events (replies_of club events) ≡ map ToMember (solo_replies (part_of name club) (own_events name club events))

-- Suppose that a member's part of the club and the member's own events are the same in two runs
-- from sound clubs. Then the replies to the member's requests are the same in both runs.
abbrev pub SoloLawOfTwo : Type 0
SoloLawOfTwo =
    (name : List ℕ) (a b : Club) (events others : List Event)
    → IsSound a
    → IsSound b
    → part_of name a ≡ part_of name b
    → own_events name a events ≡ own_events name b others
    → replies_to name a events (replies_of a events) ≡ replies_to name b others (replies_of b others)

-- The member's part of the club after the member's own events.
abbrev pub solo_part : Club → List OwnEvent → Club
solo_part part [] = part
solo_part part (OwnChange change ∷ events) = solo_part (after change part) events
solo_part part (OwnAsk words moment others ∷ events) =
    solo_part (after_change (solo_verdict part words moment others).change part) events

-- In a run from a sound club, applying the member's own events to the member's part gives the
-- member's part of the club after the run.
abbrev pub EndsWithThePart : Type 0
EndsWithThePart =
    (name : List ℕ) (club : Club) (events : List Event)
    → IsSound club
    → solo_part (part_of name club) (own_events name club events) ≡ part_of name (club_after club events)
