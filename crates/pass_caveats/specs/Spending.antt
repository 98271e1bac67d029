-- Defines how a key's earlier spending affects the first fault of a list of caveats.
use Rattle.std.specs.Prelude.{◌≡◌, ℕ, ◌-◌, ◌==◌, ◌≤◌, min, List, All, Option, Some, None, IfSome, if◌then◌else◌}
use Rattle.pass_caveats.specs.{Caveat.IsCaveat, Fault.{IsFaultAt, first_fault_of}, declared.{ask.Ask.Ask, caveat.Caveat.{Caveat, TheVariants.Spend}}}
use Rattle.pass_caveats.specs.declared.fault.CaveatFault.{CaveatFault}
use Rattle.club_values.specs.Number.{number_limit}

-- Returns a copy of the request in which the key has spent `spent` points.
abbrev pub after_spending : ℕ → Ask → Ask
after_spending spent ask = record ask { spent = spent }

-- If the request charges nothing, the first fault doesn't depend on the points that the key has
-- spent.
abbrev pub OwesNothing : Type 0
OwesNothing =
    (caveats : List (Option Caveat)) (ask : Ask) (spent : ℕ) → ask.owed ≡ 0
    → first_fault_of caveats (after_spending spent ask) ≡ first_fault_of caveats (after_spending 0 ask)

-- Suppose that the first fault is the same for a key that has spent nothing and for a key that has
-- spent `most` points. Then the first fault is the same for any amount up to `most`. Every spend
-- limit is at most 999,999,999 points. Therefore, if `most` is at least 999,999,999, the first
-- fault doesn't depend on the amount spent.
abbrev pub LimitsNoMore : Type 0
LimitsNoMore =
    (caveats : List (Option Caveat)) (ask : Ask) (spent most : ℕ) → All (λ (caveat : Option Caveat). IfSome caveat IsCaveat) caveats
    → min spent number_limit ≤ most
    → first_fault_of caveats (after_spending most ask) ≡ first_fault_of caveats (after_spending 0 ask)
    → first_fault_of caveats (after_spending spent ask) ≡ first_fault_of caveats (after_spending 0 ask)

-- Subtracts the request's charge from a spend limit, and returns the remaining points. The charge
-- must be within the limit. The result is `None` if the caveat isn't a spend limit or the request
-- charges nothing.
abbrev pub slack_under : Caveat → Ask → Option ℕ
slack_under (Spend n) ask = if ask.owed == 0 then None else Some (n - ask.owed)
slack_under caveat ask = None

-- The amount is within the bound. `None` means that there is no bound.
abbrev pub IsWithin : Option ℕ → ℕ → Type 0
IsWithin None spent = Unit {0}
IsWithin (Some most) spent = spent ≤ most

-- The text has this fault if and only if the amount that the key has spent is within the bound
-- `slack`. If `slack` is `None`, there is no bound.
pub record HoldsWithin (text : List ℕ) (number : ℕ) (ask : Ask) (fault : Option CaveatFault) (slack : Option ℕ) : Type 0 where
  pub within : (spent : ℕ) → IsWithin slack spent → IsFaultAt text number (after_spending spent ask) fault
  pub beyond : (spent : ℕ) → ¬ IsWithin slack spent → ¬ IsFaultAt text number (after_spending spent ask) fault
