-- Runs of neighbouring pages, written at once.
use Rattle.std.proofs.Common.{◌≡◌, ◌⊎◌, inl, inr, ⊎_elim, ℕ, ◌+◌, ◌*◌, ◌<◌, ◌≤◌, List, [], ◌∷◌, ◌++◌, length, Result, Ok, Err, OnOk, cond, ltb, refl, sym, ◌∙◌, ap, subst, arith, length-append}
use Rattle.std.proofs.lemmas.Bool.{cases_lt, cond-true, cond-false, lt-ltb, le-ltb}
use Rattle.std.proofs.lemmas.List.{get_or_append_left, get_or-append-add}
use mathlib.Core.Path.{fun_ext}
use Rattle.disk_model.specs.World.{World, Image, HasWritten, Written}
use Rattle.disk_model.specs.declared.disk.Area.{Area}
use Rattle.disk_model.specs.declared.disk.Area.TheVariants.{Pages}
use Rattle.disk_model.specs.declared.disk.Failed.{Failed}
use Rattle.disk_model.proofs.Moments.{started}
use Rattle.page_journal.specs.Record.{Batch, batch_of, with_batch}
use Rattle.page_journal.specs.Runs.{LeadsTo, IsWithin}
use Rattle.page_journal.proofs.Batches.{page_first}

-- no bytes change no page
none_written : (at : ℕ) (s0 s1 : Image) → Written Pages at [] s0 s1 → s1 Pages ≡ s0 Pages
none_written at s0 s1 w = fun_ext (λ i. w.torn.same Pages i (λ e. ⊎_elim inl (λ (g : at ≤ i). inr (omega arith)) (cases_lt i at)))

-- an empty run, before pages that lead to the target
pub leads_empty : (at : ℕ) (pages : List (ℕ × List ℕ)) (s : Image) (target : ℕ → ℕ) → with_batch (batch_of pages) (s Pages) ≡ target → LeadsTo at [] pages s target
leads_empty at pages s target is = λ new w. ap (λ (p : ℕ → ℕ). with_batch (batch_of pages) p) (none_written at s new w) ∙ is

-- the first part of what was written at once, over the image before
abbrev first_part : Image → Image → ℕ → Image
first_part s new end a i = cond (ltb i end) (new a i) (s a i)

module _ (at : ℕ) (bytes page : List ℕ) (s new : Image) (w : Written Pages at (bytes ++ page) s new) where
  long : length (bytes ++ page) ≡ length bytes + length page
  long = length-append bytes page

  in_first : (a : Area) (i : ℕ) → i < at + length bytes → first_part s new (at + length bytes) a i ≡ new a i
  in_first a i lt = cond-true (ltb i (at + length bytes)) _ _ (lt-ltb i (at + length bytes) lt)

  behind_first : (a : Area) (i : ℕ) → at + length bytes ≤ i → first_part s new (at + length bytes) a i ≡ s a i
  behind_first a i le = cond-false (ltb i (at + length bytes)) _ _ (le-ltb i (at + length bytes) le)

  written_first : Written Pages at bytes s (first_part s new (at + length bytes))
  written_first = record {
    torn = record {
      same = λ a i out. ⊎_elim
          (λ (l : i < at + length bytes). in_first a i l ∙ w.torn.same a i (λ e. ⊎_elim inl (λ (g : at + length bytes ≤ i). absurd (omega arith)) (out e)))
          (λ (g : at + length bytes ≤ i). behind_first a i g)
          (cases_lt i (at + length bytes));
    };
    inside = λ i j lt is. in_first Pages j (omega arith) ∙ w.inside i j (omega (arith, long)) is ∙ get_or_append_left bytes page 0 i lt;
  }

  written_second : (place : ℕ) → at + length bytes ≡ place → Written Pages place page (first_part s new (at + length bytes)) new
  written_second place is = record {
    torn = record {
      same = λ a i out. ⊎_elim
          (λ (l : i < at + length bytes). sym (in_first a i l))
          (λ (g : at + length bytes ≤ i). w.torn.same a i (λ e. ⊎_elim (λ (l : i < place). absurd (omega arith)) (λ (h : place + length page ≤ i). inr (omega (arith, long))) (out e)) ∙ sym (behind_first a i g))
          (cases_lt i (at + length bytes));
    };
    inside = λ i j lt here. w.inside (length bytes + i) j (omega (arith, long)) (omega arith) ∙ get_or-append-add bytes page i 0;
  }

-- a page that continues the run
pub leads_more : (at number : ℕ) (bytes more page : List ℕ) (rest : List (ℕ × List ℕ)) (s : Image) (target : ℕ → ℕ) → more ≡ bytes ++ page → at + length bytes ≡ 4096 * number → length page ≡ 4096
    → LeadsTo at bytes ((number, page) ∷ rest) s target → LeadsTo at more rest s target
leads_more at number bytes more page rest s target is place size leads = λ new w.
    let whole : Written Pages at (bytes ++ page) s new = subst (λ (l : List ℕ). Written Pages at l s new) is w in
    page_first (number, page) rest (4096 * number) page (first_part s new (at + length bytes)) new target refl size refl
    (written_second at bytes page s new whole (4096 * number) place) (leads (first_part s new (at + length bytes)) (written_first at bytes page s new whole))

-- a page that is written by itself
pub leads_written : (at number : ℕ) (page : List ℕ) (rest : List (ℕ × List ℕ)) (s0 s1 : Image) (target : ℕ → ℕ) → length page ≡ 4096 → Written Pages (4096 * number) page s0 s1
    → with_batch (batch_of ((number, page) ∷ rest)) (s0 Pages) ≡ target → LeadsTo at [] rest s1 target
leads_written at number page rest s0 s1 target size w is = leads_empty at rest s1 target (page_first (number, page) rest (4096 * number) page s0 s1 target refl size refl w is)

-- a page that begins a run
pub leads_first : (number : ℕ) (page : List ℕ) (rest : List (ℕ × List ℕ)) (s : Image) (target : ℕ → ℕ) → length page ≡ 4096
    → with_batch (batch_of ((number, page) ∷ rest)) (s Pages) ≡ target → LeadsTo (4096 * number) page rest s target
leads_first number page rest s target size is = λ new w. page_first (number, page) rest (4096 * number) page s new target refl size refl w is

-- a run and the page behind it
pub within_more : (batch : Batch) (at place n m : ℕ) → at + n ≡ place → IsWithin batch at n → IsWithin batch place m → IsWithin batch at (n + m)
within_more batch at place n m is first second = λ i apart. ⊎_elim inl (λ (g : at + n ≤ i). ⊎_elim (λ (l : i < place). absurd (omega arith)) (λ (h : place + m ≤ i). inr (omega arith)) (second i apart)) (first i apart)

-- no bytes at all
pub within_none : (batch : Batch) (at n : ℕ) → n ≡ 0 → IsWithin batch at n
within_none batch at n none = λ i apart. ⊎_elim inl (λ (g : at ≤ i). inr (omega arith)) (cases_lt i at)

-- no bytes are written by no call
pub written_by_none : {T : Type 0} (x : T) (at : ℕ) (w : World) → HasWritten Pages at [] w w (Ok x)
written_by_none x at w = record {
  written = record { torn = record { same = λ a i out. refl }; inside = λ i j lt is. absurd (omega arith) };
  torn = record { same = λ a i out. refl };
  said = refl;
  reads = refl;
  crash = λ image may. record { old = image; may = may; torn = record { same = λ a i out. refl } };
  time = record { adds = started w; keeps = λ t image said le left. left };
}

-- a run that was written, and then a page by itself
pub leads_by_itself : {T : Type 0} (r : Result T Failed) (at number : ℕ) (bytes now page : List ℕ) (s s0 s1 : Image) → now ≡ [] → length page ≡ 4096 → Written Pages at bytes s s0 → OnOk r (Written Pages (4096 * number) page s0 s1)
    → OnOk r ((rest : List (ℕ × List ℕ)) (target : ℕ → ℕ) → LeadsTo at bytes ((number, page) ∷ rest) s target → LeadsTo (4096 * number) now rest s1 target)
leads_by_itself (Ok x) at number bytes now page s s0 s1 none size first w = λ rest target leads.
    subst (λ (l : List ℕ). LeadsTo (4096 * number) l rest s1 target) (sym none) (leads_written (4096 * number) number page rest s0 s1 target size w (leads s0 first))
leads_by_itself (Err e) at number bytes now page s s0 s1 none size first w = tt
