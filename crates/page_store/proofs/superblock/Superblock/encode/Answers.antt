use Rattle.std.proofs.Common.{◌≡◌, List, ℕ, true, take, subst, sym, ◌∙◌}
use Rattle.page_store.specs.Superblock.{header_of, is_zero}
use Rattle.page_store.proofs.Headers.{joined, superblock_in-header, store_page-header, version1_page-header}
use Rattle.page_store.proofs.superblock.Superblock.encode.Goals as goal

pub returns-clause-header : goal.returns-clause-header
unfolding header_of
returns-clause-header c = joined _ c.put_long-3.ensures.front (joined _ c.put_long-2.ensures.front (joined _ c.put_long.ensures.front (joined _ c.put_word-8.ensures.front (joined _ c.put_word-7.ensures.front (joined _ c.put_word-6.ensures.front (joined _ c.put_word-5.ensures.front (joined _ c.put_word-4.ensures.front (joined _ c.put_word-3.ensures.front (joined _ c.put_word-2.ensures.front (joined _ c.put_word.ensures.front c.blank-page.ensures.magic))))))))))

pub returns-clause-spare : goal.returns-clause-spare
returns-clause-spare c =
    let behind = c.put_long-3.ensures.behind ∙ c.put_long-2.ensures.behind ∙ c.put_long.ensures.behind ∙ c.put_word-8.ensures.behind ∙ c.put_word-7.ensures.behind ∙ c.put_word-6.ensures.behind ∙ c.put_word-5.ensures.behind ∙ c.put_word-4.ensures.behind ∙ c.put_word-3.ensures.behind ∙ c.put_word-2.ensures.behind ∙ c.put_word.ensures.behind in
    subst (λ (l : List ℕ). is_zero (take 4032 l) ≡ true) (sym behind) c.blank-page.ensures.spare

pub returns-clause-block : goal.returns-clause-block
returns-clause-block c = superblock_in-header _ _ (returns-clause-header c) record { counted = c.put_word.ensures.fits; first_free = c.put_word-2.ensures.fits; places = c.put_word-3.ensures.fits; texts = c.put_word-4.ensures.fits; numbers = c.put_word-5.ensures.fits; rows = c.put_word-6.ensures.fits; tree = c.put_word-7.ensures.fits; live = c.put_word-8.ensures.fits; serial = c.put_long.ensures.fits; number = c.put_long-2.ensures.fits; next_word = c.put_long-3.ensures.fits }

pub returns-clause-store : goal.returns-clause-store
returns-clause-store c = store_page-header _ _ (returns-clause-header c) record { counted = c.put_word.ensures.fits; first_free = c.put_word-2.ensures.fits; places = c.put_word-3.ensures.fits; texts = c.put_word-4.ensures.fits; numbers = c.put_word-5.ensures.fits; rows = c.put_word-6.ensures.fits; tree = c.put_word-7.ensures.fits; live = c.put_word-8.ensures.fits; serial = c.put_long.ensures.fits; number = c.put_long-2.ensures.fits; next_word = c.put_long-3.ensures.fits } (returns-clause-spare c)

pub returns-clause-version1 : goal.returns-clause-version1
returns-clause-version1 c = version1_page-header _ _ (returns-clause-header c) record { counted = c.put_word.ensures.fits; first_free = c.put_word-2.ensures.fits; places = c.put_word-3.ensures.fits; texts = c.put_word-4.ensures.fits; numbers = c.put_word-5.ensures.fits; rows = c.put_word-6.ensures.fits; tree = c.put_word-7.ensures.fits; live = c.put_word-8.ensures.fits; serial = c.put_long.ensures.fits; number = c.put_long-2.ensures.fits; next_word = c.put_long-3.ensures.fits } (returns-clause-spare c)
