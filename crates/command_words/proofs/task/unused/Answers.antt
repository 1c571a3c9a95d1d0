use Rattle.std.proofs.Common.{◌≡◌, ◌&&◌, ◌||◌, ◌∙◌, not, refl, ap, Bool, true, false, Some, None, List, [], ◌∷◌}
use Rattle.std.specs.Prelude.{Option, find, is_some, option_copied, option_map, if◌then◌else◌}
use Rattle.std.specs.Borrow.{Bor}
use Rattle.std.specs.List.{list_any}
use Rattle.clap.specs.Words.{Text, first_of, found_of, rows_of}
use Rattle.command_words.specs.Job.{uses}
use Rattle.command_words.proofs.task.unused.Goals as goal

-- an element is found just where one passes the test
find-any : {X : Type 0} (p : X → Bool) (xs : List X) → is_some (find p xs) ≡ list_any p xs
find-any p [] = refl
find-any p (x ∷ xs) = split (p x) (find-any p xs)
  where
    split : (b : Bool) → is_some (find p xs) ≡ list_any p xs → is_some (if b then Some x else find p xs) ≡ (b || list_any p xs)
    split true rest = refl
    split false rest = rest

-- and so is a copy of what is lent
copied-any : {X : Type 0} (p : X → Bool) (lent : Option (Bor X)) (xs : List X) → option_map (λ x. x.now) lent ≡ find p xs → is_some (option_copied lent) ≡ list_any p xs
copied-any p None xs found = ap is_some found ∙ find-any p xs
copied-any p (Some x) xs found = ap is_some found ∙ find-any p xs

pub returns : goal.returns
returns c =
    let P : Bor Text → Bool = λ option. is_some (first_of option.now (rows_of (found_of c.args.matches.now))) && not (uses c.args.action option.now) in
    ap is_some c.copied.ensures ∙ copied-any P c.unused_among.result c.as_slice.result.now c.unused_among.ensures ∙ ap (list_any P) c.as_slice.ensures
