-- A picture as a caller in C stores it, and the answers of its calls.
-- Definitions only.
use Rattle.std.specs.Prelude.{ℕ, Bool, true, false, eqb}
use Rattle.exact.specs.Outcome.{Outcome, accepted, refused}
use Rattle.systems.specs.declared.System.{System}
use Rattle.systems.specs.Systems.{number, named}
use Rattle.picture.specs.declared.Opened.{Opened}
use Rattle.picture.specs.declared.Phase.{Phase}
use Rattle.picture.specs.declared.Phase.TheVariants.{Fresh, Open, Closed}
use Rattle.picture.specs.declared.Picture.{Picture}
use Rattle.picture.specs.Picture.{at, resumed}
use Rattle.ferghulta.specs.declared.stored_picture.StoredPicture.{StoredPicture}
use Rattle.ferghulta.specs.declared.picture_calls.PictureAnswer.{PictureAnswer}
use Rattle.ferghulta.specs.declared.picture_calls.TotalAnswer.{TotalAnswer}

-- ---- a picture in numbers: fresh is 0, open 1, closed 2

abbrev pub unopened : ℕ → ℕ → StoredPicture
unopened n b = record { phase = n; system = 0; width = 0; height = 0; rows = 0; bytes = b }

abbrev pub stored_open : Opened → ℕ → StoredPicture
stored_open o b = record { phase = 1; system = number o.system; width = o.width; height = o.height; rows = o.rows; bytes = b }

abbrev pub stored_at : Phase → ℕ → StoredPicture
stored_at Fresh b = unopened 0 b
stored_at (Open o) b = stored_open o b
stored_at Closed b = unopened 2 b

abbrev pub stored : Picture → StoredPicture
stored p = stored_at p.phase p.bytes

-- ---- and back: a phase that no call made with these bytes is taken as fresh

abbrev pub open_in : StoredPicture → Outcome System → Phase
open_in k (accepted y) = Open (record { system = y; width = k.width; height = k.height; rows = k.rows })
open_in k (refused n) = Fresh

abbrev pub open_phase : StoredPicture → Phase
open_phase k = open_in k (named k.system)

-- the phase, by whether its number is 1 and by whether it is 2
abbrev pub phase_by : StoredPicture → Bool → Bool → Phase
phase_by k true b = open_phase k
phase_by k false true = Closed
phase_by k false false = Fresh

abbrev pub phase_of : StoredPicture → Phase
phase_of k = phase_by k (eqb k.phase 1) (eqb k.phase 2)

abbrev pub picture_of : StoredPicture → Picture
picture_of k = at (resumed (phase_of k) k.bytes) k.bytes

-- ---- an answer: the new picture, or the number and the picture that was given

abbrev pub picture_answer : StoredPicture → Outcome Picture → PictureAnswer
picture_answer k (accepted p) = record { refusal = 0; picture = stored p }
picture_answer k (refused n) = record { refusal = n; picture = k }

-- the bytes that a picture will take, or the number
abbrev pub total_answer : Outcome ℕ → TotalAnswer
total_answer (accepted b) = record { refusal = 0; bytes = b }
total_answer (refused n) = record { refusal = n; bytes = 0 }
