use Rattle.std.proofs.Common.{rules, ◌≡◌, refl, sym, ◌∙◌, true, false, Result, Ok, Err}
use Rattle.std.specs.Result.{result_unwrap_or}
use Rattle.systems.specs.declared.refusal.Refusal.{Refusal}
use Rattle.systems.specs.Refusals.{outcome}
use Rattle.picture.specs.declared.Picture.{Picture}
use Rattle.check_pictures.specs.Calls.{after, after_call}
use Rattle.check_pictures.proofs.list.Play.make.Goals as goal

-- a refused picture stays
stays : (r : Result Picture Refusal) (p : Picture) → result_unwrap_or r p ≡ after (outcome r) p
stays (Ok q) p = refl
stays (Err e) p = refl

pub returns-then-not-is_of : goal.returns-then-not-is_of
unfolding after_call
returns-then-not-is_of c =
    let other : c.is_of.result ≡ false = search rules in
    let picture = stays c.made-answer.result c.args.self.now.picture in
    rw (sym c.is_of.ensures ∙ other, c.unwrap_or-self.ensures, picture, c.made-answer.ensures.result_value, c.made-answer.ensures.lent_after, c.expect_block.ensures, c.split_at.ensures.front, c.block_length.ensures.0)

pub returns : goal.returns
unfolding after_call
returns c =
    let asked : c.is_of.result ≡ true = search rules in
    let picture = stays c.made-answer.result c.args.self.now.picture in
    rw (sym c.is_of.ensures ∙ asked, c.with-self.ensures, c.is_met-met.ensures, c.number_of-number.ensures, c.unwrap_or-self.ensures, picture, c.made-answer.ensures.result_value, c.made-answer.ensures.lent_after, c.expect_block.ensures, c.split_at.ensures.front, c.split_at.ensures.back, c.block_length.ensures.0)
