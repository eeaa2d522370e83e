use Rattle.std.proofs.Common.{◌≡◌, length, refl, ap, ◌∙◌, arith}
use Rattle.forest.specs.Tables.{key_sides}
use Rattle.engine.specs.Marking.{marked}
use Rattle.engine.proofs.Tallies.{labels_fall}
use Rattle.engine.proofs.Listed.{others_small, size_small, trees_picked, arounds_picked, roots_picked}
use Rattle.engine.proofs.trees.list_trees.Goals as goal

pub find_roots-requires-clause-falling : goal.find_roots-requires-clause-falling
find_roots-requires-clause-falling c = labels_fall (marked c.args.keys.now c.args.marks.now) c.args.labels.now c.requires.labelled

pub find_roots-requires-clause-small : goal.find_roots-requires-clause-small
find_roots-requires-clause-small c =
    let V = length c.args.labels.now in
    let n : length c.count_ends.new.counts ≡ V = omega arith in
    others_small V c.args.keys.now c.args.marks.now c.requires.below c.requires.upward c.requires.small c.requires.forest c.args.labels.now c.count_ends.new.counts c.count_ends.new.others c.args.roots.now refl n c.requires.labelled c.count_ends.ensures

pub gather-requires-clause-small : goal.gather-requires-clause-small
gather-requires-clause-small c =
    let V = length c.args.labels.now in
    let n : length c.count_edges.new.sizes ≡ V = omega arith in
    size_small V c.args.keys.now c.args.marks.now c.requires.below c.requires.upward c.count_edges.new.sizes n c.count_edges.ensures c.requires.few

pub returns-clause-count : goal.returns-clause-count
returns-clause-count c =
    let V = length c.args.labels.now in
    let n : length c.count_edges.new.sizes ≡ V = omega arith in
    c.gather.ensures.count ∙ ap length (trees_picked V c.args.keys.now c.args.marks.now c.requires.below c.requires.upward c.count_edges.new.sizes n c.count_edges.ensures)

pub returns-clause-trees : goal.returns-clause-trees
returns-clause-trees c =
    let V = length c.args.labels.now in
    let n : length c.count_edges.new.sizes ≡ V = omega arith in
    c.gather.ensures.trees ∙ trees_picked V c.args.keys.now c.args.marks.now c.requires.below c.requires.upward c.count_edges.new.sizes n c.count_edges.ensures

pub returns-clause-arounds : goal.returns-clause-arounds
returns-clause-arounds c =
    let V = length c.args.labels.now in
    let n : length c.count_edges.new.sizes ≡ V = omega arith in
    c.gather.ensures.arounds ∙ arounds_picked V c.args.keys.now c.args.marks.now c.requires.below c.requires.upward c.count_edges.new.sizes n c.count_edges.ensures

pub returns-clause-roots : goal.returns-clause-roots
returns-clause-roots c =
    let V = length c.args.labels.now in
    let n : length c.count_edges.new.sizes ≡ V = omega arith in
    let m : length c.count_ends.new.counts ≡ V = omega arith in
    ap key_sides c.gather.ensures.roots
    ∙ roots_picked V c.args.keys.now c.args.marks.now c.requires.below c.requires.upward c.requires.small c.requires.forest c.args.labels.now c.count_ends.new.counts c.count_ends.new.others c.find_roots.new.roots refl m c.requires.labelled c.count_ends.ensures
    c.find_roots.ensures c.count_edges.new.sizes n c.count_edges.ensures
