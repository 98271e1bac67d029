-- Defines how the rules decide the office's commands. Each decision is a list of conditions with
-- results. The first true condition determines the result.
use Rattle.std.specs.{Prelude.{ℕ, ◌+◌, ◌&&◌, not, Bool, false, List, [], ◌∷◌, nat_lt, nat_le, is_some, Option, Some, None, Result, Ok, Err}, Str.bytes_eq}
use Rattle.club_core.specs.{Basis.{account_named, slot_use}, Club.{Club, member_named, facility_named, key_named, booking_under, most_taken_in}}
use Rattle.club_core.specs.{Verdict.{line_if, first_of}, declared.{account.MemberAccount.MemberAccount, change.Change.{Change, TheVariants.InsertMember}}}
use Rattle.club_core.specs.declared.change.Change.TheVariants.{AddCredit, TakeCredit, InsertFacility, ReplaceNumbers, InsertKey, MarkRevoked, ReplaceRoot}
use Rattle.club_core.specs.declared.{change.Change.TheVariants.{MarkClosed, MarkOpen, MarkCancelled, ReplaceQuota}, command.Command.Command}
use Rattle.club_core.specs.declared.command.Command.TheVariants.{AddMember, Credit, Debit, AddFacility, SetFacility, AddKey, RevokeKey, RotateKey}
use Rattle.club_core.specs.declared.command.{Command.TheVariants.{CancelBooking, CloseSlot, OpenSlot, SetQuota}, CommandView.CommandView}
use Rattle.club_core.specs.declared.command.{OfficeAnswer.{OfficeAnswer, TheVariants.{Done, NewKey}}, OfficeFault.{OfficeFault, TheVariants.{Exists, Unknown}}}
use Rattle.club_core.specs.declared.{command.OfficeFault.TheVariants.{OutOfRange, SlotInUse}, slot_use.SlotUse.SlotUse}
use Rattle.club_rows.specs.Rows.{is_open_at, credited_limit, quota_limit, places_limit, price_limit, shutting_limit, IsBookingNumber, IsRoot, IsSlot}
use Rattle.club_rows.specs.declared.{booking.Booking.Booking, facility.Facility.Facility, key.Key.Key, member.Member.Member}
use Rattle.club_values.specs.{Moment.IsMoment, Name.IsName, declared.slot.Slot.Slot}

-- Each name, slot, booking number, root and moment of the command is within its limits.
-- `command_verdict` checks the other numbers.
abbrev pub IsCommand : Command → Type 0
IsCommand (AddMember name quota) = IsName name
IsCommand (Credit member points) = IsName member
IsCommand (Debit member points) = IsName member
IsCommand (SetQuota member quota) = IsName member
IsCommand (AddFacility name kind places price opens shuts) = IsName name
IsCommand (SetFacility name places price opens shuts) = IsName name
IsCommand (AddKey name member root) = IsName name × IsName member × IsRoot root
IsCommand (RevokeKey name) = IsName name
IsCommand (RotateKey name root until) = IsName name × IsRoot root × IsMoment until
IsCommand (CancelBooking key number) = IsName key × IsBookingNumber number
IsCommand (CloseSlot slot) = IsSlot slot
IsCommand (OpenSlot slot) = IsSlot slot

-- A command's view that has only these rows.
abbrev pub rows_seen : Option Member → Option Key → Option Facility → CommandView
rows_seen member key facility =
    record { member = member; account = None; key = key; facility = facility; slot = record { taken = 0; closed = false }; most_taken = 0; booking = None }

-- The rows that a command names, and the sums that the command needs.
abbrev pub command_view : Club → Command → CommandView
command_view club (AddMember name quota) = rows_seen (member_named name club) None None
command_view club (Credit name points) = rows_seen (member_named name club) None None
command_view club (Debit name points) = record (rows_seen None None None) { account = account_named name club }
command_view club (SetQuota name quota) = rows_seen (member_named name club) None None
command_view club (AddFacility name kind places price opens shuts) = rows_seen None None (facility_named name club)
command_view club (SetFacility name places price opens shuts) =
    record (rows_seen None None (facility_named name club)) { most_taken = most_taken_in name club.bookings }
command_view club (AddKey name member root) = rows_seen (member_named member club) (key_named name club) None
command_view club (RevokeKey name) = rows_seen None (key_named name club) None
command_view club (RotateKey name root until) = rows_seen None (key_named name club) None
command_view club (CancelBooking key number) =
    record (rows_seen None (key_named key club) None) { booking = booking_under key number club.bookings }
command_view club (CloseSlot slot) = record (rows_seen None None (facility_named slot.facility club)) { slot = slot_use club slot }
command_view club (OpenSlot slot) = rows_seen None None (facility_named slot.facility club)

-- The maximum number of points in one credit or debit.
abbrev pub points_limit : ℕ
points_limit = 1_000_000

-- The points are within the limits of a credit or a debit: 1 to 1,000,000.
abbrev pub are_points : ℕ → Bool
are_points points = nat_le 1 points && nat_le points points_limit

abbrev pub credit_verdict : List ℕ → ℕ → Option Member → Result (Option Change) OfficeFault
credit_verdict name points None = Err Unknown
credit_verdict name points (Some member) =
    first_of (line_if (nat_lt credited_limit (member.credited + points)) (Err OutOfRange) ∷ []) (Ok (Some (AddCredit name points)))

-- The decision on a debit. A debit must not be more than the member's balance.
abbrev pub debit_verdict : List ℕ → ℕ → Option MemberAccount → Result (Option Change) OfficeFault
debit_verdict name points None = Err Unknown
debit_verdict name points (Some account) =
    first_of (line_if (nat_lt account.balance points) (Err OutOfRange) ∷ []) (Ok (Some (TakeCredit name points)))

-- The numbers of a facility are within their limits. A facility has at least one place, and opens
-- before it shuts.
abbrev pub are_limits : ℕ → ℕ → ℕ → ℕ → Bool
are_limits places price opens shuts =
    nat_le 1 places && nat_le places places_limit && nat_le price price_limit && nat_lt opens shuts && nat_le shuts shutting_limit

abbrev pub rotate_verdict : List ℕ → List ℕ → ℕ → Option Key → Result (Option Change) OfficeFault
rotate_verdict name root until None = Err Unknown
rotate_verdict name root until (Some key) =
    first_of (line_if (bytes_eq key.root root) (Err Exists) ∷ []) (Ok (Some (ReplaceRoot name key.root root until)))

-- The decision on a cancellation by the office. The cancellation refunds the whole charge. A
-- booking that is already cancelled doesn't change.
abbrev pub office_cancel_verdict : Option Key → Option Booking → Result (Option Change) OfficeFault
office_cancel_verdict (Some key) (Some booking) =
    first_of (line_if booking.cancelled (Ok None) ∷ []) (Ok (Some (MarkCancelled booking key.member booking.charge)))
office_cancel_verdict key booking = Err Unknown

abbrev pub close_verdict : SlotUse → Slot → Option Facility → Result (Option Change) OfficeFault
close_verdict held slot None = Err Unknown
close_verdict held slot (Some facility) =
    first_of
    (line_if (not (is_open_at facility slot.hour)) (Err OutOfRange)
    ∷ line_if held.closed (Err Exists)
    ∷ line_if (nat_lt 0 held.taken) (Err SlotInUse)
    ∷ [])
    (Ok (Some (MarkClosed slot)))

-- The decision on a command: the change that the command makes, or the fault if the rules refuse
-- the command. The change is `None` if the command cancels a booking that is already cancelled.
abbrev pub command_verdict : CommandView → Command → Result (Option Change) OfficeFault
command_verdict view (AddMember name quota) =
    first_of
    (line_if (nat_lt quota_limit quota) (Err OutOfRange) ∷ line_if (is_some view.member) (Err Exists) ∷ [])
    (Ok (Some (InsertMember (record { name = name; credited = 0; quota = quota }))))
command_verdict view (Credit name points) =
    first_of
    (line_if (not (are_points points)) (Err OutOfRange) ∷ [])
    (credit_verdict name points view.member)
command_verdict view (Debit name points) =
    first_of
    (line_if (not (are_points points)) (Err OutOfRange) ∷ [])
    (debit_verdict name points view.account)
command_verdict view (SetQuota name quota) =
    first_of
    (line_if (nat_lt quota_limit quota) (Err OutOfRange) ∷ line_if (not (is_some view.member)) (Err Unknown) ∷ [])
    (Ok (Some (ReplaceQuota name quota)))
command_verdict view (AddFacility name kind places price opens shuts) =
    first_of
    (line_if (not (are_limits places price opens shuts)) (Err OutOfRange) ∷ line_if (is_some view.facility) (Err Exists) ∷ [])
    (Ok (Some (InsertFacility (record { name = name; kind = kind; places = places; price = price; opens = opens; shuts = shuts }))))
command_verdict view (SetFacility name places price opens shuts) =
    first_of
    (line_if (not (are_limits places price opens shuts)) (Err OutOfRange)
    ∷ line_if (not (is_some view.facility)) (Err Unknown)
    ∷ line_if (nat_lt places view.most_taken) (Err SlotInUse)
    ∷ [])
    (Ok (Some (ReplaceNumbers name places price opens shuts)))
command_verdict view (AddKey name member root) =
    first_of
    (line_if (not (is_some view.member)) (Err Unknown) ∷ line_if (is_some view.key) (Err Exists) ∷ [])
    (Ok (Some (InsertKey (record { name = name; member = member; root = root; older = None; revoked = false }))))
command_verdict view (RevokeKey name) = first_of (line_if (not (is_some view.key)) (Err Unknown) ∷ []) (Ok (Some (MarkRevoked name)))
command_verdict view (RotateKey name root until) = rotate_verdict name root until view.key
command_verdict view (CancelBooking key number) = office_cancel_verdict view.key view.booking
command_verdict view (CloseSlot slot) = close_verdict view.slot slot view.facility
command_verdict view (OpenSlot slot) = first_of (line_if (not (is_some view.facility)) (Err Unknown) ∷ []) (Ok (Some (MarkOpen slot)))

-- A club's decision on a command.
abbrev pub office_verdict : Club → Command → Result (Option Change) OfficeFault
office_verdict club command = command_verdict (command_view club command) command

-- The answer to a command that succeeded. If the command sets a key's root, the answer contains the
-- key's name and root, which determine the signatures of passes.
abbrev pub done_answer : Command → OfficeAnswer
done_answer (AddMember name quota) = Done
done_answer (Credit member points) = Done
done_answer (Debit member points) = Done
done_answer (SetQuota member quota) = Done
done_answer (AddFacility name kind places price opens shuts) = Done
done_answer (SetFacility name places price opens shuts) = Done
done_answer (AddKey name member root) = NewKey name root
done_answer (RevokeKey name) = Done
done_answer (RotateKey name root until) = NewKey name root
done_answer (CancelBooking key number) = Done
done_answer (CloseSlot slot) = Done
done_answer (OpenSlot slot) = Done
