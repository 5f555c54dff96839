use Rattle.std.proofs.Common.{◌≡◌, refl, ap, ◌∙◌, ℕ, ◌+◌, ◌*◌, arith}
use lib.ListN.{set}
use Rattle.block.proofs.Stored.{length_tabulate}
use Rattle.depth.specs.Depth.{block_in}
use Rattle.depth.proofs.Front.{block_put}
use Rattle.depth.proofs.Changing.{section_in}
use Rattle.depth.proofs.write.Goals as goal

pub returns : goal.returns
unfolding block_in
returns c =
    let y = c.args.b.system in
    let z = c.args.to in
    let n = c.args.b.samples in
    let bs = c.args.bytes.now in
    let cb_word : 5 + 2 * n + 2 ≡ 7 + 2 * n = omega arith in
    let cr_word : 7 + 4 * n + 2 ≡ 9 + 4 * n = omega arith in
    block_put _ _ n _ _ _ c.args.out.now _ _ _ _ _ (length_tabulate _ n) (length_tabulate _ n) c.requires.1
    (c.put_byte.ensures ∙ ap (λ (x : ℕ). set c.args.out.now 0 x) c.number.ensures)
    c.put_field.ensures
    (section_in y z bs _ _ 3 5 n _ c.way_to-way.ensures refl c.put_section.ensures)
    (section_in y z bs _ _ (5 + 2 * n) (7 + 2 * n) n _ c.way_to-way.ensures cb_word (rw (c.cb_count.ensures, c.from-n.ensures) at c.put_section-2.ensures))
    (section_in y z bs _ _ (7 + 4 * n) (9 + 4 * n) n _ c.way_to-way.ensures cr_word (rw (c.cr_count.ensures, c.from-n.ensures) at c.put_section-3.ensures))
