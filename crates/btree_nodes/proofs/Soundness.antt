-- What a whole check shows of a page by itself.
use Rattle.std.proofs.Common.{ℕ, zero, suc, ◌+◌, ◌<◌, ◌≤◌, List, arith, refl}
use Rattle.btree_nodes.specs.declared.form.Form.{Form}
use Rattle.btree_nodes.specs.Rows.{IsWithin}
use Rattle.page_face.specs.Nodes.{count_of}
use Rattle.btree_nodes.specs.Nodes.{IsLeaf, IsInner, rows_in}
use Rattle.btree_nodes.specs.Damages.{IsOrdered}
use Rattle.btree_nodes.proofs.Checks.{rows-ascend, entries-ascend}
use Rattle.btree_nodes.proofs.Trees.{node-fewer}
use Rattle.page_face.specs.Sound.{IsSound}

pub leaf-sound : (form : Form) (least low high : ℕ) (page : List ℕ) → IsLeaf form least page → IsWithin low high (rows_in form page)
    → IsSound (record { map = form.map; key = form.key; value = form.value; level = 0 }) page
leaf-sound form least low high page leaf within = record {
  node = node-fewer form.map 1 0 (form.key + form.value) least 1 page leaf.some leaf;
  first = λ z. absurd (omega arith);
  order = rows-ascend form page low high (count_of page) refl leaf.some within;
}

pub inner-sound : (form : Form) (least level low high : ℕ) (page : List ℕ) → 0 < level → 2 ≤ least → IsInner form least level page → IsOrdered form low high page
    → IsSound (record { map = form.map; key = form.key; value = form.value; level = level }) page
inner-sound form least zero low high page up two inner order = absurd (omega arith)
inner-sound form least (suc level) low high page up two inner order =
    let f = inner.node.fill in
    record {
      node = node-fewer form.map 2 (suc level) (form.key + 4) least 2 page (omega arith) inner.node;
      first = λ z. inner.first;
      order = entries-ascend form page low high (count_of page) refl (omega arith) order;
    }
