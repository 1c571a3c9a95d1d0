-- Lines that ask by the tree alone, and the reads that they take.
use Rattle.std.specs.Prelude.{◌≡◌, ℕ, Bool, List, Result, Ok, Err, Contains}
use Rattle.std.specs.List.{AllByRecursion}
use Rattle.disk_model.specs.World.{World, Range}
use Rattle.page_store.specs.Contents as stores
use Rattle.place_values.specs.State.{Contents}
use Rattle.place_values.specs.declared.query.Query.{Query}
use Rattle.query_lang.specs.Line.{line_of}
use Rattle.query_lang.specs.Plain.{plain_line}
use Rattle.query_lang.specs.declared.line.Line.{Line}
use Rattle.query_lang.specs.declared.line.Line.TheVariants.{Nothing, Do, Ask, Show, Count}
use Rattle.query_replies.specs.declared.fault.LineFault.{LineFault}
use Rattle.irtree_engine.specs.Queries.{EachRead, IsReadForQuery, contents_held}

-- the line that was read so asks by the tree alone: it says nothing, is refused, counts, or is a query; it changes nothing and shows no place by its key
abbrev pub IsAsking : Result Line LineFault → Type 0
IsAsking (Ok Nothing) = Unit {0}
IsAsking (Ok (Do update)) = ⊥
IsAsking (Ok (Ask query explain)) = Unit {0}
IsAsking (Ok (Show key)) = ⊥
IsAsking (Ok Count) = Unit {0}
IsAsking (Err fault) = Unit {0}

-- each of the lines does
abbrev pub AreAsking : List (List ℕ) → Type 0
AreAsking lines = AllByRecursion (λ line. IsAsking (line_of line)) lines

-- The line that was read so is a query, wherever the boxes of its filter stand, and the read is of a page in a log by which its answer was found
-- with few nodes opened.
pub record IsReadFor (held : stores.Contents) (state : Contents) (read : Result Line LineFault) (range : Range) : Type 0 where
  pub query : Query
  pub explain : Bool
  pub is : read ≡ Ok (plain_line (Ask query explain))
  pub page : IsReadForQuery held state query range

-- One of the lines is such a query.
pub record IsReadForOneOf (held : stores.Contents) (state : Contents) (lines : List (List ℕ)) (range : Range) : Type 0 where
  pub line : List ℕ
  pub among : Contains lines line
  pub page : IsReadFor held state (line_of line) range

-- The image stayed, and each read was taken for the line that was read so.
abbrev pub ReadsForLine : Contents → Result Line LineFault → World → World → Type 0
ReadsForLine state read old new = (new.seen ≡ old.seen) × EachRead (IsReadFor (contents_held old.seen) state read) old new

-- The image stayed, and each read was taken for one of the lines.
abbrev pub ReadsForLines : Contents → List (List ℕ) → World → World → Type 0
ReadsForLines state lines old new = (new.seen ≡ old.seen) × EachRead (IsReadForOneOf (contents_held old.seen) state lines) old new
