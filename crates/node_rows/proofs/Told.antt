-- The rows' map of a well-formed tree: its pages are counted and told, and its keys ascend.
use Rattle.std.proofs.Common.{ℕ, zero, suc, ◌^◌, arith}
use Rattle.page_face.specs.FreeList.{PageMap}
use Rattle.btree_nodes.specs.declared.form.Form.{Form}
use Rattle.btree_nodes.specs.Damages.{AreReadable}
use Rattle.btree_nodes.specs.Nodes.{least_of_root}
use Rattle.btree_nodes.specs.Rows.{IsWithin}
use Rattle.btree_nodes.specs.Supply.{View}
use Rattle.btree_nodes.specs.Tree.{IsMap, level_of, map_rows}
use Rattle.btree_nodes.proofs.Tolds.{map-told, told-moved}
use Rattle.btree_nodes.proofs.Trees.{tree-within}
use Rattle.rtree_nodes.specs.Stock.{rows_form}
use Rattle.node_rows.specs.Rows.{Bytes}
use Rattle.node_rows.specs.Turns.{Turns}

-- the keys of a well-formed map ascend
pub map-within : (form : Form) (pages : PageMap) (root : ℕ) → IsMap form pages root → IsWithin 0 (256 ^ form.key) (map_rows form pages root)
map-within form pages zero h = omega arith
map-within form pages (suc m) h = tree-within form (least_of_root (level_of (pages (suc m)))) pages (level_of (pages (suc m))) (suc m) 0 (256 ^ form.key) h

-- rows that turned into others leave the counted pages told
pub told-turned : (before : View) (root : ℕ) (pages : PageMap) (count first root' : ℕ) (bytes : Bytes) → Turns before root pages count first root' bytes → AreReadable before.pages before.count → AreReadable pages count
told-turned before root pages count first root' bytes turn told = told-moved turn.moves (λ n some used. map-told rows_form pages root' turn.rows.kept.map n used) told
