-- The card of this crate. What a call does is what the called function's own contract says (its generated `Post`), so nothing is restated here.
-- Definitions only.
use Prim.Native.Nat.{ℕ}
use Rattle.exact.specs.Outcome.{Outcome}
use Rattle.matrix.specs.declared.Words.{Words}
use Rattle.constant_luminance.specs.declared.Lights.{Lights}
use Rattle.constant_luminance.specs.declared.Clipped.{Clipped}
use Rattle.constant_luminance.proofs.words_of_lights.Reads as encode-call
use Rattle.constant_luminance.proofs.codes_of_words.Reads as decode-Call
use Rattle.constant_luminance.proofs.Claims.{Card}
use Rattle.std.specs.Prelude.{Result}
use Rattle.systems.specs.declared.refusal.Refusal.{Refusal}
use Rattle.systems.specs.Refusals.{outcome}

pub data Encodes (n : ℕ) (l : Lights) : Outcome Words → Type 0 where
  by_words_of_lights : (n' : ℕ) (l' : Lights) (r : Result Words Refusal) → encode-call.Post tt (n, (l, tt)) r (n', (l', tt)) → Encodes n l (outcome r)

pub data Decodes (n : ℕ) (w : Words) : Outcome Clipped → Type 0 where
  by_codes_of_words : (n' : ℕ) (w' : Words) (r : Result Clipped Refusal) → decode-Call.Post tt (n, (w, tt)) r (n', (w', tt)) → Decodes n w (outcome r)

abbrev pub card : Card
card = record { Encode = Encodes; Decode = Decodes }
