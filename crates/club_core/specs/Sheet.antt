-- Defines the rows and the text of the day sheet.
use Rattle.std.specs.{Cmp.Lexicographic.slice_cmp, Fmt.decimal, Ordering.nat_cmp, Prelude.{◌≡◌, ◌⊎◌, ℕ, ◌-◌, ◌<◌, ◌==◌, ◌&&◌, not, Bool, List, [], ◌∷◌, ◌++◌}}
use Rattle.std.specs.{Prelude.{length, replicate, filter, sum_by, flat_map, AllPairs, IsPermutation, codes}, declared.cmp.Ordering.TheVariants.Less}
use Rattle.club_core.specs.Club.{Club}
use Rattle.club_rows.specs.{Rows.persons_of, declared.booking.Booking.Booking}
use Rattle.club_values.specs.{Moment.day_text, Number.two_digits}

-- Whether the booking is on this day and isn't cancelled.
abbrev pub is_on : ℕ → Booking → Bool
is_on day booking = not booking.cancelled && booking.slot.day == day

-- The text `a` comes before the text `b`. Texts are compared byte by byte.
abbrev pub IsBefore : List ℕ → List ℕ → Type 0
IsBefore a b = slice_cmp nat_cmp a b ≡ Less

-- The order of bookings: by facility, hour, key and number.
abbrev pub Precedes : Booking → Booking → Type 0
Precedes a b =
    IsBefore a.slot.facility b.slot.facility
    ⊎ ((a.slot.facility ≡ b.slot.facility) × ((a.slot.hour < b.slot.hour)
    ⊎ ((a.slot.hour ≡ b.slot.hour) × (IsBefore a.key b.key
    ⊎ ((a.key ≡ b.key) × (a.number < b.number))))))

-- The rows of the sheet: the day's bookings that aren't cancelled, in order.
pub record AreRowsOf (club : Club) (day : ℕ) (rows : List Booking) : Type 0 where
  pub same : IsPermutation (filter (is_on day) club.bookings) rows
  pub order : AllPairs Precedes rows

-- A text padded with spaces to a width. `left_in` aligns the text to the left, and `right_in`
-- aligns it to the right.
abbrev pub left_in : ℕ → List ℕ → List ℕ
left_in places text = text ++ replicate (places - length text) 32

abbrev pub right_in : ℕ → List ℕ → List ℕ
right_in places text = replicate (places - length text) 32 ++ text

abbrev pub row_text : Booking → List ℕ
row_text booking =
    left_in 24 booking.slot.facility
    ++ 32 ∷ two_digits booking.slot.hour
    ++ codes ":00 "
    ++ left_in 24 booking.key
    ++ 32 ∷ right_in 9 (decimal booking.number)
    ++ 32 ∷ right_in 2 (decimal (persons_of booking))
    ++ 32 ∷ right_in 6 (decimal booking.charge)
    ++ 10 ∷ []

abbrev pub totals_text : List Booking → List ℕ
totals_text [] = codes "No bookings." ++ 10 ∷ []
totals_text (row ∷ rows) =
    codes "Total bookings "
    ++ decimal (length (row ∷ rows))
    ++ codes ", persons "
    ++ decimal (sum_by persons_of (row ∷ rows))
    ++ codes ", charge "
    ++ decimal (sum_by (λ (b : Booking). b.charge) (row ∷ rows))
    ++ 10 ∷ []

-- The text of a sheet with these rows.
abbrev pub sheet_text : ℕ → List Booking → List ℕ
sheet_text day rows = codes "Day sheet " ++ day_text day ++ 10 ∷ [] ++ flat_map row_text rows ++ totals_text rows

-- The text is the club's sheet for the day.
pub record IsSheet (club : Club) (day : ℕ) (text : List ℕ) : Type 0 where
  pub rows : List Booking
  pub are : AreRowsOf club day rows
  pub spelling : text ≡ sheet_text day rows
