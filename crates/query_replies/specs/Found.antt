-- How answers are written.
use Rattle.std.specs.Prelude.{ℕ, ◌*◌, Bool, if◌then◌else◌, List, [], ◌∷◌, ◌++◌, length, decimal, codes, Option, Some, None}
use Rattle.json.specs.Print.{quoted}
use Rattle.place_values.specs.declared.hit.Hit.{Hit}
use Rattle.place_values.specs.declared.query.Query.{Query}
use Rattle.place_values.specs.declared.query.Query.TheVariants as queries
use Rattle.place_values.specs.declared.query.Pick.{Pick}
use Rattle.place_values.specs.declared.query.Chosen.{Chosen}
use Rattle.place_values.specs.declared.query.Answer.{Answer}
use Rattle.place_values.specs.declared.query.Answer.TheVariants.{Hits, Group}
use Rattle.place_values.specs.Top.{weight_sum}
use Rattle.query_replies.specs.Parts.{key_text, units_text, at_text}
use Rattle.query_replies.specs.Lines.{ranked_lines}
use Rattle.query_replies.specs.declared.found.Column.{Column}
use Rattle.query_replies.specs.declared.found.Column.TheVariants.{Key, Dist, Cost, CostAlone}

-- What the line of a hit has: its key; `KEY DIST`; `KEY COST`, where the words count for so much at most; or `KEY COST` where the query
-- doesn't say what its words weigh.
abbrev pub column_of : Query → Option Column
column_of (queries.Range at scale radius filter) = Some Dist
column_of (queries.Inside rect filter) = Some Key
column_of (queries.Nearest at scale k filter) = Some Dist
column_of (queries.Top at scale k alpha reach words) = Some (Cost (255 * weight_sum words))
column_of (queries.Rare at scale k alpha reach words) = Some CostAlone
column_of (queries.Group at scale words) = None
column_of (queries.Gather at scale words) = None

-- the number behind the key
abbrev pub number_text : Column → Hit → List ℕ
number_text Key hit = []
number_text Dist hit = 32 ∷ units_text hit.dist
number_text (Cost total) hit = 32 ∷ decimal hit.cost
number_text CostAlone hit = 32 ∷ decimal hit.cost

-- ` dist DIST text T of TOTAL`
abbrev pub score_text : ℕ → Hit → List ℕ
score_text total hit = codes " dist " ++ (units_text hit.dist ++ (codes " text " ++ (decimal hit.text ++ (codes " of " ++ decimal total))))

-- how the cost came about, where it was asked for
abbrev pub reason_text : Bool → Column → Hit → List ℕ
reason_text explain Key hit = []
reason_text explain Dist hit = []
reason_text explain (Cost total) hit = if explain then score_text total hit else []
reason_text explain CostAlone hit = []

-- what the line of a hit says behind its rank
abbrev pub hit_text : Bool → Column → Hit → List ℕ
hit_text explain column hit = key_text hit.key ++ (number_text column hit ++ (at_text explain hit.point ++ reason_text explain column hit))

-- `= N`, and a line for each hit
abbrev pub hits_text : Bool → Column → List Hit → List ℕ
hits_text explain column hits = codes "= " ++ (decimal (length hits) ++ (10 ∷ ranked_lines (hit_text explain column) 1 hits))

-- what the line of a pick says behind its rank: `WORD KEY DIST`
abbrev pub pick_text : Bool → Pick → List ℕ
pick_text explain pick = quoted pick.word ++ (32 ∷ (key_text pick.key ++ (32 ∷ (units_text pick.dist ++ at_text explain pick.point))))

-- `= N COST`, and a line for each pick; or `none`
abbrev pub group_text : Bool → Option Chosen → List ℕ
group_text explain None = codes "none\n"
group_text explain (Some chosen) =
    codes "= " ++ (decimal (length chosen.picks) ++ (32 ∷ (units_text chosen.cost ++ (10 ∷ ranked_lines (pick_text explain) 1 chosen.picks))))

-- hits of a query that finds hits
abbrev pub column_hits : Bool → Option Column → List Hit → List ℕ
column_hits explain None hits = []
column_hits explain (Some column) hits = hits_text explain column hits

-- the choice of a query that chooses
abbrev pub query_group : Bool → Query → Option Chosen → List ℕ
query_group explain (queries.Group at scale words) chosen = group_text explain chosen
query_group explain (queries.Gather at scale words) chosen = group_text explain chosen
query_group explain (queries.Range at scale radius filter) chosen = []
query_group explain (queries.Inside rect filter) chosen = []
query_group explain (queries.Nearest at scale k filter) chosen = []
query_group explain (queries.Top at scale k alpha reach words) chosen = []
query_group explain (queries.Rare at scale k alpha reach words) chosen = []

-- an answer to a query; one to a query of another kind has no byte
abbrev pub found_text : Bool → Query → Answer → List ℕ
found_text explain query (Hits hits) = column_hits explain (column_of query) hits
found_text explain query (Group chosen) = query_group explain query chosen
