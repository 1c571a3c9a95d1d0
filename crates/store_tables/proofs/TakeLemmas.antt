-- How many pages calls take, one after another.
use Rattle.std.proofs.Common.{◌≡◌, ℕ, ◌+◌, ◌≤◌, Result, arith}
use Rattle.std.specs.Prelude.{IsErrOf}
use Rattle.page_face.specs.Calls.{Reads, TakesAtMost}
use Rattle.page_face.specs.declared.fault.PageFault.{PageFault}
use Rattle.page_face.specs.declared.fault.PageFault.TheVariants.{NoRoom}
use Rattle.page_face.specs.declared.pages.Pages.{Ghosts}

module _ {P : Type 0} (g : Ghosts P) where
  -- a call after one that only read
  pub takes-read : {X : Type 0} {result : Result X PageFault} (most : ℕ) (a b c : P) → Reads g a b → TakesAtMost g most b c result → TakesAtMost g most a c result
  takes-read most a b c read takes = record {
    count = (let t = takes.count in let r = read.count in omega (arith, t, r));
    full = λ e. (let t = takes.full e in let r = read.room in omega (arith, t, r));
    none = takes.none;
  }

  -- a call after one that counted so many more
  pub takes-then : {X : Type 0} {result : Result X PageFault} (first second : ℕ) (a b c : P) → g.count b ≤ g.count a + first → g.room b ≡ g.room a
      → TakesAtMost g second b c result → TakesAtMost g (first + second) a c result
  takes-then first second a b c count room takes = record {
    count = (let t = takes.count in omega (arith, t, count));
    full = λ e. (let t = takes.full e in omega (arith, t, room));
    none = takes.none;
  }

  -- a refusal that is handed up
  pub takes-passed : {X Y : Type 0} (below : Result X PageFault) (above : Result Y PageFault) (most : ℕ) (a b : P) → (IsErrOf above NoRoom → IsErrOf below NoRoom)
      → TakesAtMost g most a b below → TakesAtMost g most a b above
  takes-passed below above most a b same takes = record { count = takes.count; full = λ e. takes.full (same e); none = λ e. takes.none (same e) }

  -- more are as right a bound
  pub takes-wider : {X : Type 0} {result : Result X PageFault} (few many : ℕ) (a b : P) → few ≤ many → TakesAtMost g few a b result → TakesAtMost g many a b result
  takes-wider few many a b more takes = record { count = (let t = takes.count in omega (arith, t, more)); full = takes.full; none = takes.none }
