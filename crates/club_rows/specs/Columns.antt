-- Defines which column values represent a row.
use Rattle.std.specs.Prelude.{◌≡◌, ℕ, ◌≤◌, ℤ, pos, Bool, true, false, List}
use Rattle.club_rows.specs.{Rows.{charge_limit, IsMember, IsFacility, IsKeyRow, IsSlot, IsBooking}, declared.booking.Booking.Booking}
use Rattle.club_rows.specs.declared.{booking.BookingColumns.BookingColumns, facility.{Facility.Facility, FacilityColumns.FacilityColumns}, key.KeyRow.KeyRow}
use Rattle.club_rows.specs.declared.member.Member.{Member}
use Rattle.club_values.specs.{Kind.kind_text, declared.slot.Slot.Slot}

abbrev pub truth : Bool → ℕ
truth false = 0
truth true = 1

abbrev pub IsTruth : ℤ → Bool → Type 0
IsTruth value b = value ≡ pos (truth b)

pub record IsMemberOf (name : List ℕ) (credited quota : ℤ) (member : Member) : Type 0 where
  pub row : IsMember member
  pub same_name : name ≡ member.name
  pub same_credited : credited ≡ pos member.credited
  pub same_quota : quota ≡ pos member.quota

pub record IsFacilityOf (columns : FacilityColumns) (facility : Facility) : Type 0 where
  pub row : IsFacility facility
  pub same_name : columns.name.now ≡ facility.name
  pub same_kind : columns.kind.now ≡ kind_text facility.kind
  pub same_places : columns.places ≡ pos facility.places
  pub same_price : columns.price ≡ pos facility.price
  pub same_opens : columns.opens ≡ pos facility.opens
  pub same_shuts : columns.shuts ≡ pos facility.shuts

pub record IsKeyOf (name member root : List ℕ) (revoked : ℤ) (key : KeyRow) : Type 0 where
  pub row : IsKeyRow key
  pub same_name : name ≡ key.name
  pub same_member : member ≡ key.member
  pub same_root : root ≡ key.root
  pub same_revoked : IsTruth revoked key.revoked

pub record IsSlotOf (facility : List ℕ) (day hour : ℤ) (slot : Slot) : Type 0 where
  pub row : IsSlot slot
  pub same_facility : facility ≡ slot.facility
  pub same_day : day ≡ pos slot.day
  pub same_hour : hour ≡ pos slot.hour

-- The columns contain this charge, cancellation flag and refund. The charge is within its limit,
-- and the refund is at most the charge. If the booking isn't cancelled, the refund is 0.
pub record IsPaid (charge_value cancelled_value refund_value : ℤ) (charge : ℕ) (cancelled : Bool) (refund : ℕ) : Type 0 where
  pub same_charge : charge_value ≡ pos charge
  pub same_cancelled : IsTruth cancelled_value cancelled
  pub same_refund : refund_value ≡ pos refund
  pub largest : charge ≤ charge_limit
  pub at_most : refund ≤ charge
  pub kept : cancelled ≡ false → refund ≡ 0

pub record IsBookingOf (columns : BookingColumns) (booking : Booking) : Type 0 where
  pub row : IsBooking booking
  pub same_key : columns.key.now ≡ booking.key
  pub same_number : columns.number ≡ pos booking.number
  pub same_slot : IsSlotOf columns.facility.now columns.day columns.hour booking.slot
  pub same_guests : columns.guests ≡ pos booking.guests
  pub same_charge : columns.charge ≡ pos booking.charge
  pub same_left : columns.left ≡ pos booking.left
  pub same_cancelled : IsTruth columns.cancelled booking.cancelled
  pub same_refund : columns.refund ≡ pos booking.refund
