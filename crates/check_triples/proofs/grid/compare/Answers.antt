use Rattle.std.proofs.Common.{◌*◌, ◌/◌, ◌≡◌, arith, rules}
use Rattle.matrix.specs.declared.Encoding.TheVariants.{Plain}
use Rattle.matrix.specs.Triples.{words_of_codes}
use Rattle.check_triples.specs.Cases.{grid_at, grid_codes, grid_words, gives}
use Rattle.check_triples.proofs.grid.compare.Goals as goal

-- the record at place 3·i is that of triple i
pub returns : goal.returns
returns c = c.compare.ensures (grid_at c.args.records.now) (λ i told within post.
    let third : 3 * i / 3 ≡ i = omega arith in
    let met : told ≡ gives (words_of_codes 1 Plain (grid_codes (3 * i / 3))) (grid_words c.args.records.now (3 * i)) = search rules in
    rw third at met)
