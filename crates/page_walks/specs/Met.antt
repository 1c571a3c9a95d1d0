-- The pages that walks over the structures of a store have met, each once.
use Rattle.std.specs.Prelude.{◌≡◌, ℕ, ◌+◌, ◌<◌, ◌≤◌, List, ◌++◌, if◌then◌else◌}
use Rattle.std.specs.Ordering.{nat_cmp}
use Rattle.std.specs.BTreeSet.{BTreeSet, contains}
use Rattle.btree_nodes.specs.Supply.{times}

-- 1 if the page was met, and else 0
unfoldable pub held : BTreeSet ℕ → ℕ → ℕ
held met n = if contains nat_cmp met n then 1 else 0

-- Pages were met: `before n` and `now n` are how often page n was met, and each that was met since is one of `uses`. Each page that was
-- asked for is one of them, so that none is asked for twice, and no other page is.
pub record Meets (uses : ℕ → ℕ) (asked asked' : List ℕ) (before now : ℕ → ℕ) : Type 0 where
  pub own : (n : ℕ) → now n ≤ before n + uses n
  pub more : List ℕ
  pub is : asked' ≡ asked ++ more
  pub once : (n : ℕ) → before n + times more n ≤ now n

-- each page may be used once
abbrev pub any_page : ℕ → ℕ
any_page n = 1

-- the page is the first counted one after page 0 that wasn't met
pub record IsFirstUnmet (count : ℕ) (met : ℕ → ℕ) (page : ℕ) : Type 0 where
  pub some : 0 < page
  pub counted : page < count
  pub unmet : met page ≡ 0
  pub first : (n : ℕ) → 0 < n → n < page → met n ≡ 1
