-- What a reader's step keeps, and where it stops.
use Rattle.std.proofs.Common.{◌≡◌, ◌<◌, ℕ, suc, List, [], ◌∷◌, ◌++◌, length, take, drop, get_or, Some, refl, sym, ap, ◌∙◌, subst, arith, drop-cons}
use Rattle.std.specs.Str.{IsUtf8}
use Rattle.std.proofs.lemmas.List.{take-append-drop}
use Rattle.std.proofs.Math.Seq.{take-suc, take-length}
use Rattle.json_spelled.specs.Machine.{State, step, start}
use Rattle.json_spelled.specs.Reader.{Goes}
use Rattle.json_spelled.specs.Reading.{ReadsSo}
use Rattle.json_spelled.proofs.Kept.{KeptBy, kept}
use Rattle.json_spelled.proofs.Texts.{one_on}

-- a text is cut at a byte
cut_at : (text : List ℕ) (i : ℕ) → i < length text → take i text ++ (get_or text i 0 ∷ drop (suc i) text) ≡ text
cut_at text i h = ap (λ x. take i text ++ x) (sym (drop-cons text i 0 h)) ∙ take-append-drop i text

-- nothing was read
pub reads_none : (text : List ℕ) → ReadsSo (take 0 text) start
reads_none text = record { leads = λ levels rest h. refl; keeps = refl }

-- one byte more was read
pub reads_more : (text : List ℕ) (i : ℕ) (state next : State) → i < length text → IsUtf8 text → ReadsSo (take i text) state → Goes (λ levels. step levels state (get_or text i 0)) next → ReadsSo (take (suc i) text) next
reads_more text i state next short utf8 r goes =
    let byte = get_or text i 0 in
    let more : take (suc i) text ≡ take i text ++ byte ∷ [] = take-suc text i 0 short in
    let whole : IsUtf8 (take i text ++ byte ∷ drop (suc i) text) = subst IsUtf8 (sym (cut_at text i short)) utf8 in
    let keeps : KeptBy (take i text ++ byte ∷ []) (Some next) = subst (KeptBy (take i text ++ byte ∷ [])) (goes 64 (omega arith)) (kept 64 (take i text) (drop (suc i) text) state byte whole r.keeps) in
    subst (λ (x : List ℕ). ReadsSo x next) (sym more) (record {
      leads = λ levels rest h. one_on levels (take i text) byte rest state (Some next) (λ rest. r.leads levels rest h) (goes levels h);
      keeps = keeps;
    })

-- all was read
pub reads_all : (text : List ℕ) (state : State) → ReadsSo (take (length text) text) state → ReadsSo text state
reads_all text state r = subst (λ (x : List ℕ). ReadsSo x state) (take-length text) r
