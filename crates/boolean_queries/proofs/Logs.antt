-- Logs of several calls.
use Rattle.std.proofs.Common.{◌⊎◌, ℕ, ◌<◌, List, [], ◌∷◌, ◌++◌, ap, ◌∙◌, append_assoc, inl, inr, ⊎_elim, arith, subst, sym}
use Rattle.std.specs.List.{Contains}
use Rattle.btree_nodes.specs.Supply.{one_at}
use Rattle.btree_nodes.proofs.Supplies.{one_at-is}
use Rattle.btree_nodes.specs.Damages.{AsksOnly}
use Rattle.best_first.specs.Lists.{all_weaker, all_append, all_in}
use Rattle.boolean_queries.specs.Walked.{AsksFor}

-- other nodes may be asked for, too
pub asks-wider : (ns ms : List ℕ) (mine : ℕ → ℕ) (old new : List ℕ) → ((page : ℕ) → Contains ns page → Contains ms page) → AsksFor ns mine old new → AsksFor ms mine old new
asks-wider ns ms mine old new f a = record {
  more = a.more;
  log = a.log;
  alone = all_weaker (λ page. Contains ns page ⊎ (0 < mine page)) (λ page. Contains ms page ⊎ (0 < mine page)) (λ page h. ⊎_elim (λ c. inl (f page c)) (λ m. inr m) h) a.more a.alone;
}

-- one call after another
pub asks-then : (ns : List ℕ) (mine : ℕ → ℕ) (old mid new : List ℕ) → AsksFor ns mine old mid → AsksFor ns mine mid new → AsksFor ns mine old new
asks-then ns mine old mid new a b = record {
  more = a.more ++ b.more;
  log = b.log ∙ ap (λ l. l ++ b.more) a.log ∙ append_assoc old a.more b.more;
  alone = all_append (λ page. Contains ns page ⊎ (0 < mine page)) a.more b.more a.alone b.alone;
}

-- pages of the rows' map alone
pub asks-rows : (ns : List ℕ) (mine : ℕ → ℕ) (old new : List ℕ) → AsksOnly mine old new → AsksFor ns mine old new
asks-rows ns mine old new a = record {
  more = a.more;
  log = a.is;
  alone = all_weaker (λ page. 0 < mine page) (λ page. Contains ns page ⊎ (0 < mine page)) (λ page h. inr h) a.more a.own;
}

-- nothing is in no list
pub contains-none : (page : ℕ) → Contains [] page → ⊥
contains-none page h = let l = h.1 in omega arith

page-in : (page n : ℕ) → 0 < one_at page n → Contains (page ∷ []) n
page-in page n h = subst (Contains (page ∷ [])) (sym (one_at-is page n h)) (all_in (page ∷ [])).0

-- one page alone
pub asks-page : (page : ℕ) (mine : ℕ → ℕ) (old new : List ℕ) → AsksOnly (one_at page) old new → AsksFor (page ∷ []) mine old new
asks-page page mine old new a = record {
  more = a.more;
  log = a.is;
  alone = all_weaker (λ n. 0 < one_at page n) (λ n. Contains (page ∷ []) n ⊎ (0 < mine n)) (λ n h. inl (page-in page n h)) a.more a.own;
}
