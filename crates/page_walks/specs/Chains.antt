-- A chain of free pages, each naming the next, on any bytes.
use Rattle.std.specs.Prelude.{◌≡◌, ◌⊎◌, ℕ, ◌+◌, ◌<◌, List, [], ◌∷◌, ◌++◌}
use Rattle.page_face.specs.FreeList.{PageMap, IsFreeList, BreaksFree, next_free}
use Rattle.page_face.specs.declared.fault.Damage.{Damage}
use Rattle.btree_nodes.specs.Supply.{times}
use Rattle.page_walks.specs.Misuse.{IsMisused}

-- the chain from a page, whatever the pages hold, goes over these pages and then names the next one
abbrev pub IsReached : PageMap → ℕ → List ℕ → ℕ → Type 0
IsReached pages from [] next = from ≡ next
IsReached pages from (page ∷ rest) next = (from ≡ page) × (0 < page) × IsReached pages (next_free (pages page)) rest next

-- The chain reaches a page with which a page is misused, or which breaks a rule of a free page: the damage is that.
pub record IsBrokenChain (pages : PageMap) (count : ℕ) (before : ℕ → ℕ) (first : ℕ) (damage : Damage) : Type 0 where
  pub front : List ℕ
  pub next : ℕ
  pub some : 0 < next
  pub reached : IsReached pages first front next
  pub how : IsMisused count before (times (front ++ next ∷ [])) damage ⊎ ((damage.page ≡ next) × BreaksFree damage.rule (pages next))

-- the chain is a free list, each page of which was met once more
pub record IsMetChain (pages : PageMap) (count : ℕ) (before now : ℕ → ℕ) (first : ℕ) : Type 0 where
  pub free : List ℕ
  pub chain : IsFreeList pages count first free
  pub met : (n : ℕ) → now n ≡ before n + times free n
