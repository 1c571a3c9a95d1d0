-- A commit stays while no area changes.
use Rattle.std.proofs.Common.{◌≡◌, sym, ap, subst, ◌∙◌, ℕ}
use Rattle.disk_model.specs.World.{World, Image}
use Rattle.disk_model.specs.declared.disk.Area.TheVariants.{Journal}
use Rattle.disk_model.proofs.Moments.{reads_then}
use Rattle.page_journal.specs.Record.{IsJournal, IsReady, SaysNothing, applied, journal_end}
use Rattle.page_store.specs.declared.superblock.Superblock.{Superblock}
use Rattle.page_store.specs.Superblock.{superblock_in, IsStorePage}
use Rattle.page_store.specs.Contents.{page_bytes, IsCommitted, IsVersion1Page}
use Rattle.page_cache.specs.Pages.{PageTable}
use Rattle.page_store.specs.Held.{AreImages}
use Rattle.page_store.specs.Store.{Rests}

-- calls that change no area leave the journal ready
pub ready_rests : {at : ℕ} {old new : World} → IsReady at old → Rests old new → IsReady at new
ready_rests ready rests = record {
  safe = λ image may. ready.safe image (rests.crash image may) ∙ sym rests.seen;
  journal = subst (λ (m : Image). IsJournal (m Journal)) (sym rests.seen) ready.journal;
  end = ap (λ (m : Image). journal_end (m Journal)) rests.seen ∙ ready.end;
}

-- calls that change no area leave the disk as the last commit left it
pub committed_rests : {block : Superblock} {at : ℕ} {old new : World} → IsCommitted block at old → Rests old new → IsCommitted block at new
committed_rests {block = block} committed rests = record {
  ready = ready_rests committed.ready rests;
  head = ap (λ (m : Image). superblock_in (page_bytes (applied m) 0)) rests.seen ∙ committed.head;
  page = λ range. subst (λ (m : Image). IsStorePage (page_bytes (applied m) 0)) (sym rests.seen) (committed.page range);
  version1 = subst (λ (m : Image). IsVersion1Page block (page_bytes (applied m) 0)) (sym rests.seen) committed.version1;
}

-- and the journal's pages are still those that the disk stands for
pub images_rest : {journal : PageTable} {old new : World} → AreImages journal old.seen → Rests old new → AreImages journal new.seen
images_rest {journal = journal} images rests = subst (λ (m : Image). AreImages journal m) (sym rests.seen) images

-- and so they do once the disk stands for the same pages from another record on
pub committed_later : {block : Superblock} {at next : ℕ} {old new : World} → IsCommitted block at old → IsReady next new → applied new.seen ≡ applied old.seen → IsCommitted block next new
committed_later {block = block} committed ready same = record {
  ready = ready;
  head = ap (λ (p : ℕ → ℕ). superblock_in (page_bytes p 0)) same ∙ committed.head;
  page = λ range. subst (λ (p : ℕ → ℕ). IsStorePage (page_bytes p 0)) (sym same) (committed.page range);
  version1 = subst (λ (p : ℕ → ℕ). IsVersion1Page block (page_bytes p 0)) (sym same) committed.version1;
}

-- calls that said nothing, one behind the other
pub says_then : {a b c : World} → SaysNothing a b → SaysNothing b c → SaysNothing a c
says_then ab bc = record { said = bc.said ∙ ab.said; reads = reads_then ab.reads bc.reads }
