-- The log of reads since it was emptied.
use Rattle.std.proofs.Common.{◌≡◌, ℕ, Bool, IsTrue, List, [], ◌++◌, sym, ap, subst, ◌∙◌}
use Rattle.std.specs.Borrow.{MutBor}
use Rattle.disk_model.specs.World.{World}
use Rattle.page_store.specs.Contents.{Overlay}
use Rattle.page_store.specs.Store.{OnlyReads, ReadsOnly, reads_nothing}

module _ {D : Type 0} (readable : Bool) (world : D → World) {before a : MutBor D} {asked : List ℕ} (same : a ≡ before) (empty : asked ≡ []) where
  -- each read since then is of a page in the log
  pub logged : {overlay_a overlay_b : Overlay} {asked_b : List ℕ} {b : D} → OnlyReads readable world overlay_a overlay_b asked asked_b a.now b → IsTrue readable → ReadsOnly asked_b (world before.now) (world b)
  logged {asked_b = asked_b} {b = b} only t =
      subst (λ disk. ReadsOnly asked_b (world disk) (world b)) (λ i. (same i).now)
      (subst (λ (pages : List ℕ). ReadsOnly pages (world a.now) (world b)) (sym (only.asked ∙ ap (λ (pages : List ℕ). pages ++ only.more) empty)) (only.reads t))

  -- and with none it is empty
  pub logged-none : (overlay : Overlay) → IsTrue readable → ReadsOnly asked (world before.now) (world a.now)
  logged-none overlay = logged (reads_nothing readable world overlay asked a.now)
