-- The day rule said plainly: the month is one of the twelve, and the day one of those that the month has in that year.
use Rattle.std.specs.Prelude.{if◌then◌else◌}
use Prim.Native.Nat.{ℕ, suc, ◌+◌, ◌*◌, ◌-◌, ◌/◌, ◌%◌, ◌≤◌}
use mathlib.Core.Path.{◌≡◌, refl, sym, subst}
use mathlib.Core.Bool.{Bool, true, false, ◌&&◌}
use native.Mathlib.Omega.{arith}
use lib.Dec.{eqb, leb}
use borrow.Author.Tests.{eq-eqb, ne_eqb, eqb-true, eqb-false, le-leb, leb-true}
use Rattle.paper.specs.Values.{among, lies_from, days_in, true_day}
use Rattle.paper.proofs.Laws.{both_left, both_right}

-- Leap years are 2000 and every fourth year after it.
pub Leap : ℕ → Type 0
Leap year = (k : ℕ) × (year ≡ 2000 + 4 * k)

-- the months of a year, each with its number and its days
pub data Month (year : ℕ) : (month days : ℕ) → Type 0 where
  january : Month year 1 31
  february : (Leap year → ⊥) → Month year 2 28
  february_of_a_leap_year : Leap year → Month year 2 29
  march : Month year 3 31
  april : Month year 4 30
  may : Month year 5 31
  june : Month year 6 30
  july : Month year 7 31
  august : Month year 8 31
  september : Month year 9 30
  october : Month year 10 31
  november : Month year 11 30
  december : Month year 12 31

-- a day of the years 2000 to 2099
pub record Exists (year month day : ℕ) : Type 0 where
  pub first_year : 2000 ≤ year
  pub last_year : year ≤ 2099
  pub days : ℕ
  pub of_month : Month year month days
  pub first_day : 1 ≤ day
  pub last_day : day ≤ days

leap_fourth : (year : ℕ) → Leap year → year % 4 ≡ 0
unfolding Leap
leap_fourth year l = let k = l.0 in let e : year ≡ 2000 + 4 * k = l.1 in omega arith

fourth_leap : (year : ℕ) → 2000 ≤ year → year % 4 ≡ 0 → Leap year
unfolding Leap
fourth_leap year h e = (year / 4 - 500, omega arith)

-- a number from k on is k, or lies from the next on
from_on : (P : ℕ → Type 0) (m k : ℕ) → P k → (suc k ≤ m → P m) → k ≤ m → P m
from_on P m k here above h = by (eqb m k) refl
  where
    by : (c : Bool) → eqb m k ≡ c → P m
    by true e = subst P (sym (eqb-true m k e)) here
    by false e = above (let n : m ≡ k → ⊥ = eqb-false m k e in omega arith)

february_has : (year : ℕ) → 2000 ≤ year → Month year 2 (days_in year 2)
unfolding days_in
february_has year h = by (eqb (year % 4) 0) refl
  where
    by : (c : Bool) → eqb (year % 4) 0 ≡ c → Month year 2 (if c then 29 else 28)
    by true e = february_of_a_leap_year (fourth_leap year h (eqb-true (year % 4) 0 e))
    by false e = february (λ l. eqb-false (year % 4) 0 e (leap_fourth year l))

month_has : (year month : ℕ) → 2000 ≤ year → 1 ≤ month → month ≤ 12 → Month year month (days_in year month)
unfolding days_in among
month_has year month y low high =
    on 1 january (λ h.
    on 2 (february_has year y) (λ h.
    on 3 march (λ h.
    on 4 april (λ h.
    on 5 may (λ h.
    on 6 june (λ h.
    on 7 july (λ h.
    on 8 august (λ h.
    on 9 september (λ h.
    on 10 october (λ h.
    on 11 november (λ h.
    on 12 december (λ h. absurd (omega arith)) h) h) h) h) h) h) h) h) h) h) h) low
  where
    on : (k : ℕ) → Month year k (days_in year k) → (suc k ≤ month → Month year month (days_in year month)) → k ≤ month → Month year month (days_in year month)
    on = from_on (λ k. Month year k (days_in year k)) month

month_days : {year month days : ℕ} → 2000 ≤ year → Month year month days → (1 ≤ month) × (month ≤ 12) × (days_in year month ≡ days)
unfolding days_in among
month_days h january = (omega arith, omega arith, refl)
month_days {year} h (february n) = (omega arith, omega arith, rw (ne_eqb (year % 4) 0 (λ e. n (fourth_leap year h e))))
month_days {year} h (february_of_a_leap_year l) = (omega arith, omega arith, rw (eq-eqb (year % 4) 0 (leap_fourth year l)))
month_days h march = (omega arith, omega arith, refl)
month_days h april = (omega arith, omega arith, refl)
month_days h may = (omega arith, omega arith, refl)
month_days h june = (omega arith, omega arith, refl)
month_days h july = (omega arith, omega arith, refl)
month_days h august = (omega arith, omega arith, refl)
month_days h september = (omega arith, omega arith, refl)
month_days h october = (omega arith, omega arith, refl)
month_days h november = (omega arith, omega arith, refl)
month_days h december = (omega arith, omega arith, refl)

within : (low high n : ℕ) → lies_from low high n ≡ true → (low ≤ n) × (n ≤ high)
unfolding lies_from
within low high n e =
    (leb-true low n (both_left (leb low n) (leb n high) e), leb-true n high (both_right (leb low n) (leb n high) e))

lies : (low high n : ℕ) → low ≤ n → n ≤ high → lies_from low high n ≡ true
unfolding lies_from
lies low high n h k = rw (le-leb low n h, le-leb n high k)

-- The paper's rule holds of exactly the days that exist.
pub true_day_exists : (year month day : ℕ) → true_day year month day ≡ true → Exists year month day
unfolding true_day
true_day_exists year month day e =
    let Y = lies_from 2000 2099 year in
    let M = lies_from 1 12 month in
    let D = lies_from 1 (days_in year month) day in
    let y = within 2000 2099 year (both_left Y M (both_left (Y && M) D e)) in
    let m = within 1 12 month (both_right Y M (both_left (Y && M) D e)) in
    let d = within 1 (days_in year month) day (both_right (Y && M) D e) in
    record {
      first_year = y.0;
      last_year = y.1;
      days = days_in year month;
      of_month = month_has year month y.0 m.0 m.1;
      first_day = d.0;
      last_day = d.1;
    }

pub exists_true_day : (year month day : ℕ) → Exists year month day → true_day year month day ≡ true
unfolding true_day
exists_true_day year month day x =
    let m = month_days x.first_year x.of_month in
    rw (
      lies 2000 2099 year x.first_year x.last_year,
      lies 1 12 month m.0 m.1,
      lies 1 (days_in year month) day x.first_day (rw m.2 x.last_day),
    )
