-- The laws of tables and of the tree of their rules hold, and so does demand 2.
use mathlib.Core.List.{List}
use Prim.Native.Nat.{ℕ}
use Rattle.signature.specs.Read.{Signed}
use Rattle.signature.specs.Signature.{Signature}
use Rattle.signature.proofs.LawfulFacts.{sig_facts}
use Rattle.row.proofs.PassedFacts.{of_passed}
use Rattle.tree.proofs.CompiledFacts.{compiled_only}
use Rattle.table.specs.Demand2.{Demand2}
use Rattle.table.specs.Laws.{Laws}
use Rattle.table.specs.Limits.{limits}
use Rattle.table.specs.Rule.{Rule, default_of}
use Rattle.table.specs.Sound.{SoundTable}
use Rattle.table.proofs.ByRelation.{by_relation}
use Rattle.table.proofs.Demand2Facts.{one_rule, answered, answered_only}
use Rattle.table.proofs.Outcomes.{first_sharer}
use Rattle.table.proofs.RunDirect.{run_direct}
use Rattle.table.proofs.SoundFacts.{sound_valid, sound_table, table_sound, sound_decides, sound_runs}
use Rattle.table.proofs.TableFacts.{Valid, sound_stored}
use Rattle.table.proofs.TreeCompiled.{tree_compiled}
use Rattle.table.proofs.TreeLeaves.{tree_treed}

valid : (sig : Signature) → Signed sig → (table : List ℕ) (rs : List Rule) → SoundTable limits sig table rs → Valid sig rs
valid sig signed table rs h = (sound_valid sig signed table rs (table_sound sig signed table rs h)).0

pub laws : Laws
laws = record {
  sound_table = λ sig signed table rs. (sound_table sig signed table rs, table_sound sig signed table rs);
  stored_read = λ sig signed table lent rs h dft. sound_stored sig dft rs lent (valid sig signed table rs h);
  lowest = λ sig signed table rs h ws e.
      let f = first_sharer sig ws h.rises e in
      (f.rule, f.held, f.named, f.shares_it, f.lowest);
  four_rules = λ dft sig signed table rs h.
      let c = tree_compiled dft sig (sig_facts sig signed) rs (valid sig signed table rs h) in
      (c, λ t d. compiled_only dft sig d c);
  leaves = λ dft sig signed table rs h. tree_treed dft sig (sig_facts sig signed) rs (valid sig signed table rs h);
  runs = λ dft sig signed table rs h behind bs v b. run_direct dft sig signed rs (valid sig signed table rs h) behind bs v b;
}

pub demand_2 : Demand2
demand_2 = record {
  decides = λ ss sig lawful table rs h bs v b number a k.
      let (x, y, z) = sound_decides ss sig lawful table rs (table_sound sig (ss, lawful) table rs h) bs number v a b k in
      (x, by_relation (default_of table) sig (ss, lawful) table rs h bs v b a z);
  runs = λ ss sig lawful table rs h space space' behind len c bs v b number a k.
      let (x, y, z) = sound_runs ss sig lawful table rs (table_sound sig (ss, lawful) table rs h) space space' behind bs len number v a c b k in
      (x, by_relation (default_of table) sig (ss, lawful) table rs h bs v b a z);
  one_rule = λ dft sig signed r bs v p b. one_rule dft sig r bs v (of_passed sig signed r.pattern p) b;
  answered = λ dft sig signed table rs h bs v b. answered dft sig signed rs bs v (valid sig signed table rs h) b;
  one_answer = answered_only;
}
