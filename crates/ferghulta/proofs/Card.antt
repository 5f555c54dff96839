-- The card of the C interface. What a call does is what the exported function's own contract says (its generated `Post`), so nothing is restated here.
-- Definitions only.
use Prim.Native.Nat.{ℕ}
use mathlib.Core.Path.{◌≡◌}
use mathlib.Core.Bool.{Bool, true, false}
use mathlib.Core.List.{List}
use lib.Dec.{eqb}
use lib.ListN.{replicate}
use contract.Lifetimes.{Lfts}
use denote.Ref.{Bor}
use denote.MutBor.{MutBor}
use Rattle.exact.specs.Outcome.{Outcome}
use Rattle.exact.specs.Outcome as outcome
use Rattle.block.proofs.Told.{Row}
use Rattle.constant_luminance.specs.declared.Lights.{Lights}
use Rattle.constant_luminance.specs.declared.Clipped.{Clipped}
use Rattle.constant_luminance.proofs.Claims as constant
use Rattle.depth.proofs.Claims as depth
use Rattle.matrix.specs.declared.Words.{Words}
use Rattle.meter.specs.declared.Figures.{Figures}
use Rattle.meter.specs.declared.Meter.{Meter}
use Rattle.meter.proofs.Calls as meter
use Rattle.picture.specs.Book.{Answer, accepted, refused}
use Rattle.picture.proofs.Calls.{Label, Card}
use Rattle.reader.proofs.Calls as reader
use Rattle.segmented.specs.declared.Order.{Order}
use Rattle.segmented.specs.declared.Order.TheVariants.{Segmented, Progressive}
use Rattle.ferghulta.specs.declared.calls.BlockAnswer.{BlockAnswer}
use Rattle.ferghulta.specs.declared.constant_calls.ConstantWordsAnswer.{ConstantWordsAnswer}
use Rattle.ferghulta.specs.declared.constant_calls.ConstantCodesAnswer.{ConstantCodesAnswer}
use Rattle.ferghulta.specs.declared.meter_calls.MeteredAnswer.{MeteredAnswer}
use Rattle.ferghulta.specs.declared.stored_picture.StoredPicture.{StoredPicture}
use Rattle.ferghulta.specs.declared.stored_reader.StoredReader.{StoredReader}
use Rattle.ferghulta.specs.declared.reader_calls.ReaderAnswer.{ReaderAnswer}
use Rattle.ferghulta.specs.declared.reader_calls.NextAnswer.{NextAnswer}
use Rattle.ferghulta.specs.declared.picture_calls.PictureAnswer.{PictureAnswer}
use Rattle.ferghulta.specs.declared.picture_calls.TotalAnswer.{TotalAnswer}
use Rattle.ferghulta.proofs.picture_calls.ferghulta_new.Reads as new-call
use Rattle.ferghulta.proofs.picture_calls.ferghulta_open.Reads as open-call
use Rattle.ferghulta.proofs.picture_calls.ferghulta_row.Reads as row-call
use Rattle.ferghulta.proofs.picture_calls.ferghulta_close.Reads as close-call
use Rattle.ferghulta.proofs.picture_calls.ferghulta_total_bytes.Reads as total-call
use Rattle.ferghulta.proofs.calls.ferghulta_read_block.Reads as read-call
use Rattle.ferghulta.proofs.meter_calls.ferghulta_read_metered.Reads as read-metered-call
use Rattle.ferghulta.proofs.meter_calls.ferghulta_meter_figures.Reads as figures-call
use Rattle.ferghulta.proofs.reader_calls.ferghulta_new_reader.Reads as new-reader-call
use Rattle.ferghulta.proofs.reader_calls.ferghulta_open_reader.Reads as open-reader-call
use Rattle.ferghulta.proofs.reader_calls.ferghulta_read_next.Reads as read-next-call
use Rattle.ferghulta.proofs.depth_calls.ferghulta_change_depth.Reads as change-depth-call
use Rattle.ferghulta.proofs.constant_calls.ferghulta_constant_words_of_lights.Reads as constant-words-call
use Rattle.ferghulta.proofs.constant_calls.ferghulta_constant_codes_of_words.Reads as constant-codes-call
use Rattle.ferghulta.proofs.segmented_calls.ferghulta_to_segmented.Reads as to-segmented
use Rattle.ferghulta.proofs.segmented_calls.ferghulta_to_progressive.Reads as to-progressive

-- what the caller hears: refusal 0 is accepted
abbrev pub answer_if : Bool → ℕ → Answer
answer_if true n = accepted
answer_if false n = refused n

abbrev pub answer_by : PictureAnswer → Answer
answer_by a = answer_if (eqb a.refusal 0) a.refusal

-- and then values stand beside it
abbrev pub values_if : {A : Type 0} → Bool → ℕ → A → Outcome A
values_if true n a = outcome.accepted a
values_if false n a = outcome.refused n

abbrev pub values_by : {A : Type 0} → ℕ → A → Outcome A
values_by n a = values_if (eqb n 0) n a

-- what a reading tells
abbrev pub label_by : BlockAnswer → Outcome Label
label_by a = values_by a.refusal (record { system = a.system; samples = a.samples; row = a.row })

-- the total that is foretold
abbrev pub total_by : TotalAnswer → Outcome ℕ
total_by a = values_by a.refusal a.bytes

-- the next call is given the picture that the answer has
pub data Opens (k : StoredPicture) (n w h : ℕ) : Answer → StoredPicture → Type 0 where
  by_open : (a : PictureAnswer) (k' : StoredPicture) (n' w' h' : ℕ) → open-call.Post tt (k, (n, (w, (h, tt)))) a (k', (n', (w', (h', tt)))) → Opens k n w h (answer_by a) a.picture

-- κs are the lifetimes of the two references, whatever they are
pub data Rows (k : StoredPicture) : List ℕ → List ℕ → Answer → List ℕ → StoredPicture → Type 0 where
  by_row : (κs : Lfts 2) (lights : Bor (List ℕ)) (out : MutBor (List ℕ)) (lights' : Bor (List ℕ)) (out' : MutBor (List ℕ)) (a : PictureAnswer) (k' : StoredPicture) → row-call.Post κs (k, (lights, (out, tt))) a (k', (lights', (out', tt)))
      → Rows k lights.now out.now (answer_by a) out'.now a.picture

pub data Closes (k : StoredPicture) : Answer → StoredPicture → Type 0 where
  by_close : (a : PictureAnswer) (k' : StoredPicture) → close-call.Post tt (k, tt) a (k', tt) → Closes k (answer_by a) a.picture

pub data Reads : List ℕ → List ℕ → Outcome Label → List ℕ → Type 0 where
  by_read_block : (κs : Lfts 2) (bytes : Bor (List ℕ)) (slice : MutBor (List ℕ)) (bytes' : Bor (List ℕ)) (slice' : MutBor (List ℕ)) (a : BlockAnswer) → read-call.Post κs (bytes, (slice, tt)) a (bytes', (slice', tt))
      → Reads bytes.now slice.now (label_by a) slice'.now

pub data Totals (w h : ℕ) : Outcome ℕ → Type 0 where
  by_total_bytes : (a : TotalAnswer) (w' h' : ℕ) → total-call.Post tt (w, (h, tt)) a (w', (h', tt)) → Totals w h (total_by a)

-- the bytes are the field that the caller reads
abbrev pub card : Card
card = record {
  Picture = StoredPicture;
  bytes = λ k. k.bytes;
  New = λ k. new-call.Post tt tt k tt;
  Open = Opens;
  Row = Rows;
  Close = Closes;
  Read = Reads;
  Total = Totals;
}

-- ---- metered reads: a meter crosses as it is, and one that is all zero is empty

abbrev pub row_by : BlockAnswer → Outcome Row
row_by a = values_by a.refusal (record { system = a.system; row = a.row; samples = a.samples; low = a.clips.low; high = a.clips.high })

pub data MeteredReads (m : Meter) : List ℕ → List ℕ → Outcome Row → List ℕ → Meter → Type 0 where
  by_read_metered : (κs : Lfts 2) (bytes : Bor (List ℕ)) (slice : MutBor (List ℕ)) (bytes' : Bor (List ℕ)) (slice' : MutBor (List ℕ)) (a : MeteredAnswer) (m' : Meter) → read-metered-call.Post κs (m, (bytes, (slice, tt))) a (m', (bytes', (slice', tt)))
      → MeteredReads m bytes.now slice.now (row_by a.block) slice'.now a.meter

pub data BlockReads : List ℕ → List ℕ → Outcome Row → List ℕ → Type 0 where
  by_read : (κs : Lfts 2) (bytes : Bor (List ℕ)) (slice : MutBor (List ℕ)) (bytes' : Bor (List ℕ)) (slice' : MutBor (List ℕ)) (a : BlockAnswer) → read-call.Post κs (bytes, (slice, tt)) a (bytes', (slice', tt))
      → BlockReads bytes.now slice.now (row_by a) slice'.now

pub data Shows (m : Meter) (f : Figures) : Type 0 where
  by_figures : (m' : Meter) → figures-call.Post tt (m, tt) f (m', tt) → Shows m f

abbrev pub meter_card : meter.Card
meter_card = record {
  Empty = λ m. m ≡ record { lows = replicate 64 0; low = 0; highs = replicate 64 0; high = 0; place = 0; rows = 0 };
  Read = MeteredReads;
  Block = BlockReads;
  Shows = Shows;
}

-- ---- moving rows and changing depths: the refusal alone is answered

abbrev pub outcome_by : ℕ → Outcome (Unit {0})
outcome_by n = values_by n tt

pub data Moves : Order → List ℕ → List ℕ → Outcome (Unit {0}) → List ℕ → Type 0 where
  by_to_segmented : (κs : Lfts 2) (bs : Bor (List ℕ)) (out : MutBor (List ℕ)) (bs' : Bor (List ℕ)) (out' : MutBor (List ℕ)) (n : ℕ) → to-segmented.Post κs (bs, (out, tt)) n (bs', (out', tt)) → Moves Segmented bs.now out.now (outcome_by n) out'.now
  by_to_progressive : (κs : Lfts 2) (bs : Bor (List ℕ)) (out : MutBor (List ℕ)) (bs' : Bor (List ℕ)) (out' : MutBor (List ℕ)) (n : ℕ) → to-progressive.Post κs (bs, (out, tt)) n (bs', (out', tt)) → Moves Progressive bs.now out.now (outcome_by n) out'.now

abbrev pub depth_label_by : BlockAnswer → Outcome depth.Label
depth_label_by a = values_by a.refusal (record { system = a.system; row = a.row; samples = a.samples })

pub data Changes (t : ℕ) : List ℕ → List ℕ → Outcome (Unit {0}) → List ℕ → Type 0 where
  by_change_depth : (κs : Lfts 2) (bytes : Bor (List ℕ)) (out : MutBor (List ℕ)) (bytes' : Bor (List ℕ)) (out' : MutBor (List ℕ)) (t' n : ℕ) → change-depth-call.Post κs (t, (bytes, (out, tt))) n (t', (bytes', (out', tt)))
      → Changes t bytes.now out.now (outcome_by n) out'.now

pub data LabelReads : List ℕ → List ℕ → Outcome depth.Label → Type 0 where
  by_read_label : (κs : Lfts 2) (bytes : Bor (List ℕ)) (slice : MutBor (List ℕ)) (bytes' : Bor (List ℕ)) (slice' : MutBor (List ℕ)) (a : BlockAnswer) → read-call.Post κs (bytes, (slice, tt)) a (bytes', (slice', tt))
      → LabelReads bytes.now slice.now (depth_label_by a)

abbrev pub depth_card : depth.Card
depth_card = record { Change = Changes; Read = LabelReads }

-- ---- picture readers: the next call is given the reader that the answer has, and the field `phase` tells whether it is complete

pub data ReaderOpens (k : StoredReader) (h : ℕ) : Outcome (Unit {0}) → StoredReader → Type 0 where
  by_open_reader : (a : ReaderAnswer) (k' : StoredReader) (h' : ℕ) → open-reader-call.Post tt (k, (h, tt)) a (k', (h', tt)) → ReaderOpens k h (outcome_by a.refusal) a.reader

pub data NextReads (k : StoredReader) : List ℕ → List ℕ → Outcome Row → List ℕ → StoredReader → Type 0 where
  by_read_next : (κs : Lfts 2) (bytes : Bor (List ℕ)) (slice : MutBor (List ℕ)) (bytes' : Bor (List ℕ)) (slice' : MutBor (List ℕ)) (a : NextAnswer) (k' : StoredReader) → read-next-call.Post κs (k, (bytes, (slice, tt))) a (k', (bytes', (slice', tt)))
      → NextReads k bytes.now slice.now (row_by a.block) slice'.now a.reader

abbrev pub reader_card : reader.Card
reader_card = record {
  Reader = StoredReader;
  New = λ k. new-reader-call.Post tt tt k tt;
  Open = ReaderOpens;
  Read = NextReads;
  Block = BlockReads;
  Complete = λ k t. t ≡ eqb k.phase 2;
}

-- ---- constant luminance

abbrev pub constant_words_by : ConstantWordsAnswer → Outcome Words
constant_words_by a = values_by a.refusal a.words

abbrev pub constant_codes_by : ConstantCodesAnswer → Outcome Clipped
constant_codes_by a = values_by a.refusal (record { codes = a.codes; clips = a.clips })

pub data Encodes (n : ℕ) (l : Lights) : Outcome Words → Type 0 where
  by_words_of_lights : (n' : ℕ) (l' : Lights) (a : ConstantWordsAnswer) → constant-words-call.Post tt (n, (l, tt)) a (n', (l', tt)) → Encodes n l (constant_words_by a)

pub data Decodes (n : ℕ) (w : Words) : Outcome Clipped → Type 0 where
  by_codes_of_words : (n' : ℕ) (w' : Words) (a : ConstantCodesAnswer) → constant-codes-call.Post tt (n, (w, tt)) a (n', (w', tt)) → Decodes n w (constant_codes_by a)

abbrev pub constant_card : constant.Card
constant_card = record { Encode = Encodes; Decode = Decodes }
