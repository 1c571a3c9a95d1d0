-- Logs of several calls.
use Rattle.std.proofs.Common.{◌≡◌, ℕ, List, ◌∷◌, ◌++◌, sym, ap, ◌∙◌, append_assoc}
use Rattle.std.specs.List.{Contains}
use Rattle.btree_nodes.specs.Damages.{AskedSince}
use Rattle.best_first.specs.Openings.{AsksNodes}
use Rattle.best_first.specs.Lists.{all_weaker, all_append}

-- asked for in the last call: asked for in all of them
pub asked_sooner : (old more new : List ℕ) (page : ℕ) → AskedSince (old ++ more) new page → AskedSince old new page
asked_sooner old more new page a = record {
  front = more ++ a.front;
  back = a.back;
  is = a.is ∙ append_assoc old more (a.front ++ (page ∷ a.back)) ∙ ap (λ x. old ++ x) (sym (append_assoc more a.front (page ∷ a.back)));
}

-- asked for in an earlier call
pub asked_before : (old mid more new : List ℕ) (page : ℕ) → AskedSince old mid page → new ≡ mid ++ more → AskedSince old new page
asked_before old mid more new page a e = record {
  front = a.front;
  back = a.back ++ more;
  is = e ∙ ap (λ x. x ++ more) a.is ∙ append_assoc old (a.front ++ (page ∷ a.back)) more ∙ ap (λ x. old ++ x) (append_assoc a.front (page ∷ a.back) more);
}

-- other nodes may be asked for, too
pub asks_wider : (is_node : ℕ → Type 0) (ns ms old new : List ℕ) → ((page : ℕ) → Contains ns page → Contains ms page) → AsksNodes is_node ns old new → AsksNodes is_node ms old new
asks_wider is_node ns ms old new f a = record {
  more = a.more;
  log = a.log;
  alone = all_weaker (λ page. is_node page → Contains ns page) (λ page. is_node page → Contains ms page) (λ page h t. f page (h t)) a.more a.alone;
}

-- fewer pages may be nodes
pub asks_of : (are is_node : ℕ → Type 0) (ns old new : List ℕ) → ((page : ℕ) → is_node page → are page) → AsksNodes are ns old new → AsksNodes is_node ns old new
asks_of are is_node ns old new f a = record {
  more = a.more;
  log = a.log;
  alone = all_weaker (λ page. are page → Contains ns page) (λ page. is_node page → Contains ns page) (λ page h t. h (f page t)) a.more a.alone;
}

-- one call after another
pub asks_then : (is_node : ℕ → Type 0) (ns old mid new : List ℕ) → AsksNodes is_node ns old mid → AsksNodes is_node ns mid new → AsksNodes is_node ns old new
asks_then is_node ns old mid new a b = record {
  more = a.more ++ b.more;
  log = b.log ∙ ap (λ l. l ++ b.more) a.log ∙ append_assoc old a.more b.more;
  alone = all_append (λ page. is_node page → Contains ns page) a.more b.more a.alone b.alone;
}
