-- Reads that each have something in common.
use Rattle.std.proofs.Common.{◌≡◌, ℕ, List, [], ◌∷◌, ◌++◌, sym, ap, ◌∙◌, append_assoc}
use Rattle.std.proofs.lemmas.List.{append-nil}
use Rattle.std.specs.List.{AllByRecursion}
use Rattle.disk_model.specs.World.{World, Range}
use Rattle.page_store.specs.Contents as stores
use Rattle.page_store.specs.Store.{IsReadOf, ReadsOnly}
use Rattle.place_values.specs.Answer.{answer_of}
use Rattle.place_values.specs.State.{Contents}
use Rattle.place_values.specs.declared.query.Query.{Query}
use Rattle.irtree_engine.specs.Queries.{EachRead, IsFoundByFew, IsReadForQuery}

-- each has what follows from what it had
each-by : (P Q : Range → Type 0) → ((r : Range) → P r → Q r) → (taken : List Range) → AllByRecursion P taken → AllByRecursion Q taken
each-by P Q follows [] each = tt
each-by P Q follows (r ∷ taken) each = (follows r each.0, each-by P Q follows taken each.1)

-- and so have those behind them
each-both : (P : Range → Type 0) (taken later : List Range) → AllByRecursion P taken → AllByRecursion P later → AllByRecursion P (taken ++ later)
each-both P [] later each behind = behind
each-both P (r ∷ taken) later each behind = (each.0, each-both P taken later each.1 behind)

-- no read was taken
pub reads-none : (P : Range → Type 0) (old new : World) → new.reads ≡ old.reads → EachRead P old new
reads-none P old new same = record { taken = []; are = same ∙ sym (append-nil old.reads); each = tt }

-- what follows of each read
pub reads-by : (P Q : Range → Type 0) (old new : World) → ((r : Range) → P r → Q r) → EachRead P old new → EachRead Q old new
reads-by P Q old new follows reads = record { taken = reads.taken; are = reads.are; each = each-by P Q follows reads.taken reads.each }

-- some reads behind others
pub reads-then : (P : Range → Type 0) (old now new : World) → EachRead P old now → EachRead P now new → EachRead P old new
reads-then P old now new first later = record {
  taken = first.taken ++ later.taken;
  are = later.are ∙ ap (λ (l : List Range). l ++ later.taken) first.are ∙ append_assoc old.reads first.taken later.taken;
  each = each-both P first.taken later.taken first.each later.each;
}

-- the reads of pages in a log by which an answer was found
pub reads-logged : (held : stores.Contents) (state : Contents) (query : Query) (asked : List ℕ) (old new : World) → IsFoundByFew held.pages held.block state query [] asked (answer_of state query) → ReadsOnly asked old new → EachRead (IsReadForQuery held state query) old new
reads-logged held state query asked old new few reads = reads-by (IsReadOf asked) (IsReadForQuery held state query) old new (λ r page. record { asked = asked; few = few; page = page })
    (record { taken = reads.taken; are = reads.are; each = reads.each })
