-- The line that bytes stand for.
use Rattle.std.specs.Prelude.{◌≡◌, ℕ, ◌-◌, ◌^◌, ◌<◌, ◌==◌, nat_lt, if◌then◌else◌, Bool, true, false, pos, neg_ℤ, unsigned_abs, List, [], ◌∷◌, length, take, slice_index, codes, Option, Some, None, Result, Ok, Err, refl}
use Rattle.std.proofs.lemmas.Bool.{lt-ltb}
use Rattle.std.specs.Str.{bytes_eq, is_utf8}
use Rattle.spatial_base.specs.Point.{Position}
use Rattle.spatial_base.specs.Rect.{Bounds}
use Rattle.term_impacts.specs.Impacts.{word_impacts}
use Rattle.term_impacts.specs.Label.{label_of}
use Rattle.place_values.specs.declared.update.Update.TheVariants as updates
use Rattle.place_values.specs.declared.query.Expr.{Expr}
use Rattle.place_values.specs.declared.query.Query.{Query}
use Rattle.place_values.specs.declared.query.Query.TheVariants as queries
use Rattle.line_tokens.specs.Token.{Token, Bare, Quoted, Open, Close, Broken, after_blanks, token_of}
use Rattle.query_replies.specs.declared.fault.LineFault.{LineFault}
use Rattle.query_replies.specs.declared.fault.LineFault.TheVariants as faults
use Rattle.query_lang.specs.declared.line.Line.{Line}
use Rattle.query_lang.specs.declared.line.Line.TheVariants as lines
use Rattle.query_lang.specs.declared.command.Command.{Command}
use Rattle.query_lang.specs.declared.command.Command.TheVariants as commands
use Rattle.query_lang.specs.declared.command.Asked.{Asked}
use Rattle.query_lang.specs.declared.command.Asked.TheVariants as asked
use Rattle.query_lang.specs.Reader.{Reader, ◌>>=◌, gives, part, at_end, is_word, made}
use Rattle.query_lang.specs.Number.{whole_of}
use Rattle.query_lang.specs.Degrees.{degrees_of}
use Rattle.query_lang.specs.Key.{key_of}
use Rattle.query_lang.specs.Word.{word_of, term_of, some_words}
use Rattle.query_lang.specs.Expression.{filter_of, behind_word, if_behind}

-- LON LAT
unfoldable pub point_part : Reader Position
point_part = do
  x ← part (degrees_of (neg_ℤ (pos 1800000000)) (pos 1800000000))
  y ← part (degrees_of (neg_ℤ (pos 900000000)) (pos 900000000))
  gives record { x = x; y = y }

-- a query that ends with `where` and a filter, or without one
abbrev pub filtered : (Option Expr → Query) → List ℕ → Result Query LineFault
filtered make text = made make (filter_of text)

-- `scale` and SCALE, where that is the next token; without them the scale is 1000
unfoldable pub scale_part : Reader ℕ
scale_part text = if_behind (part (whole_of 0 1000)) (Ok (1000, text)) (behind_word (codes "scale") (token_of text))

-- LON LAT R, the scale, and the filter
unfoldable pub range_query : List ℕ → Result Query LineFault
range_query = do
  at ← point_part
  radius ← part (degrees_of (pos 0) (pos (10 ^ 12)))
  scale ← scale_part
  filtered (queries.Range at scale (unsigned_abs radius))

-- W S E N
unfoldable pub rect_part : Reader Bounds
rect_part = do
  west ← part (degrees_of (neg_ℤ (pos 1800000000)) (pos 1800000000))
  south ← part (degrees_of (neg_ℤ (pos 900000000)) (pos 900000000))
  east ← part (degrees_of west (pos 1800000000))
  north ← part (degrees_of south (pos 900000000))
  gives record { west = west; south = south; east = east; north = north }

-- W S E N, and the filter: a box has no scale
unfoldable pub box_query : List ℕ → Result Query LineFault
box_query = do
  rect ← rect_part
  filtered (queries.Inside rect)

-- LON LAT K, the scale, and the filter
unfoldable pub nearest_query : List ℕ → Result Query LineFault
nearest_query = do
  at ← point_part
  k ← part (whole_of 1 1000)
  scale ← scale_part
  filtered (queries.Nearest at scale k)

-- `words`
abbrev pub words_sign : Token → Result (Unit {0}) LineFault
words_sign token = if is_word (codes "words") token then Ok tt else Err faults.Extra

-- `words`, and the words without weights
unfoldable pub listed_words : List ℕ → Result (List (List ℕ)) LineFault
listed_words = do
  _ ← part words_sign
  some_words word_of

-- `words`, and the words with their weights
unfoldable pub listed_terms : List ℕ → Result (List (List ℕ × ℕ)) LineFault
listed_terms = do
  _ ← part words_sign
  some_words term_of

-- the text behind `idf`, where that is the next token; in a query that is explained `idf` is a token as any other
abbrev pub behind_idf : Bool → List ℕ → Option (List ℕ)
behind_idf explain text = if explain then None else behind_word (codes "idf") (token_of text)

-- LON LAT K ALPHA REACH, the scale, and the words: behind `idf` without weights, else with them
unfoldable pub top_query : Bool → List ℕ → Result Query LineFault
top_query explain = do
  at ← point_part
  k ← part (whole_of 1 1000)
  alpha ← part (whole_of 0 1000)
  reach ← part (degrees_of (pos 1) (pos 4024922359))
  scale ← scale_part
  λ text.
      if_behind (λ rest. made (queries.Rare at scale k alpha (unsigned_abs reach)) (listed_words rest))
      (made (queries.Top at scale k alpha (unsigned_abs reach)) (listed_terms text))
      (behind_idf explain text)

-- LON LAT, the scale, and the words
unfoldable pub group_query : List ℕ → Result Query LineFault
group_query = do
  at ← point_part
  scale ← scale_part
  λ text. made (queries.Group at scale) (listed_words text)

-- the same for a gather query
unfoldable pub gather_query : List ℕ → Result Query LineFault
gather_query = do
  at ← point_part
  scale ← scale_part
  λ text. made (queries.Gather at scale) (listed_words text)

-- the query behind its command, which is explained or not
abbrev pub query_by : Bool → Asked → List ℕ → Result Query LineFault
query_by explain asked.Range = range_query
query_by explain asked.Box = box_query
query_by explain asked.Nearest = nearest_query
query_by explain asked.Top = top_query explain
query_by explain asked.Group = group_query
query_by explain asked.Gather = gather_query

-- the command that a bare token names
abbrev pub command_named : List ℕ → Result Command LineFault
command_named bytes =
    if bytes_eq bytes (codes "add") then Ok commands.Add
    else if bytes_eq bytes (codes "remove") then Ok commands.Remove
    else if bytes_eq bytes (codes "show") then Ok commands.Show
    else if bytes_eq bytes (codes "count") then Ok commands.Count
    else if bytes_eq bytes (codes "explain") then Ok commands.Explain
    else if bytes_eq bytes (codes "range") then Ok (commands.Ask asked.Range)
    else if bytes_eq bytes (codes "box") then Ok (commands.Ask asked.Box)
    else if bytes_eq bytes (codes "nearest") then Ok (commands.Ask asked.Nearest)
    else if bytes_eq bytes (codes "top") then Ok (commands.Ask asked.Top)
    else if bytes_eq bytes (codes "group") then Ok (commands.Ask asked.Group)
    else if bytes_eq bytes (codes "gather") then Ok (commands.Ask asked.Gather)
    else Err faults.Command

-- a token that is a command
abbrev pub command_of : Token → Result Command LineFault
command_of (Bare bytes) = command_named bytes
command_of (Quoted bytes) = Err faults.Command
command_of Open = Err faults.Command
command_of Close = Err faults.Command
command_of Broken = Err faults.Command

-- a command that asks
abbrev pub asks : Result Command LineFault → Result Asked LineFault
asks (Ok (commands.Ask query)) = Ok query
asks (Ok commands.Add) = Err faults.Command
asks (Ok commands.Remove) = Err faults.Command
asks (Ok commands.Show) = Err faults.Command
asks (Ok commands.Count) = Err faults.Command
asks (Ok commands.Explain) = Err faults.Command
asks (Err fault) = Err fault

-- a query, with or without what explains its answer
abbrev pub ask_line : Bool → Asked → List ℕ → Result Line LineFault
ask_line explain query text = made (λ q. lines.Ask q explain) (query_by explain query text)

-- KEY LON LAT, and the text behind the blanks that follow
unfoldable pub add_line : List ℕ → Result Line LineFault
add_line = do
  key ← part (key_of false)
  at ← point_part
  λ text. Ok (lines.Do (updates.Put (Some key) at (word_impacts (after_blanks text)) (label_of (after_blanks text))))

-- KEY
abbrev pub remove_line : List ℕ → Result Line LineFault
remove_line = do
  key ← part (key_of true)
  at_end (lines.Do (updates.Remove key))

-- KEY
abbrev pub show_line : List ℕ → Result Line LineFault
show_line = do
  key ← part (key_of true)
  at_end (lines.Show key)

-- the line behind its command
abbrev pub line_by : Command → List ℕ → Result Line LineFault
line_by commands.Add = add_line
line_by commands.Remove = remove_line
line_by commands.Show = show_line
line_by commands.Count = at_end lines.Count
line_by commands.Explain = part (λ token. asks (command_of token)) >>= ask_line true
line_by (commands.Ask query) = ask_line false query

-- a text that says nothing: it has only blanks, or begins with `#` behind them
abbrev pub is_silent : List ℕ → Bool
is_silent [] = true
is_silent (byte ∷ bytes) = byte == 35

-- a command, and what it is followed by
abbrev pub commanded : List ℕ → Result Line LineFault
commanded = part command_of >>= line_by

-- the line of a text
unfoldable pub line_of_text : List ℕ → Result Line LineFault
line_of_text text = if is_silent (after_blanks text) then Ok lines.Nothing else commanded text

-- the bytes without one CR at the end
abbrev pub without_cr : List ℕ → List ℕ
without_cr bytes = if slice_index bytes (length bytes - 1) == 13 then take (length bytes - 1) bytes else bytes

-- the line that bytes stand for, without their LF
unfoldable pub line_of : List ℕ → Result Line LineFault
line_of bytes =
    if nat_lt 65536 (length bytes) then Err faults.Length
    else if is_utf8 (without_cr bytes) then line_of_text (without_cr bytes)
    else Err faults.Utf8

-- more bytes are no line
pub line_of-long : (bytes : List ℕ) → 65536 < length bytes → line_of bytes ≡ Err faults.Length
unfolding line_of
line_of-long bytes long = rw (lt-ltb 65536 (length bytes) long) refl
