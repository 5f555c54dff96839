-- A picture that is stored in numbers and taken up again is the same picture.
-- Assumes nothing.
use Prim.Native.Nat.{ℕ}
use mathlib.Core.Path.{◌≡◌, refl, ap}
use Rattle.systems.proofs.Scales.{named_number}
use Rattle.picture.specs.declared.Phase.{Phase}
use Rattle.picture.specs.declared.Phase.TheVariants.{Fresh, Open, Closed}
use Rattle.picture.specs.declared.Picture.{Picture}
use Rattle.picture.specs.Picture.{at}
use Rattle.picture.proofs.Claims.{Proper}
use Rattle.picture.proofs.Resume.{resumed_proper, resumed_same}
use Rattle.ferghulta.specs.declared.stored_picture.StoredPicture.{StoredPicture}
use Rattle.ferghulta.specs.Stored.{stored_at, open_in, phase_of, stored, picture_of}

phase_returns : (f : Phase) (b : ℕ) → phase_of (stored_at f b) ≡ f
phase_returns Fresh b = refl
phase_returns (Open o) b = ap (open_in (stored_at (Open o) b)) (named_number o.system)
phase_returns Closed b = refl

bytes_return : (f : Phase) (b : ℕ) → (stored_at f b).bytes ≡ b
bytes_return Fresh b = refl
bytes_return (Open o) b = refl
bytes_return Closed b = refl

-- nothing is lost of a picture that calls can make
pub stored_returns : (p : Picture) → Proper p → picture_of (stored p) ≡ p
stored_returns p g = rw (bytes_return p.phase p.bytes, phase_returns p.phase p.bytes) (ap (λ (f : Phase). at f p.bytes) (resumed_same p.phase p.bytes g))

-- whatever a caller stored, calls can make the picture that it is taken for
pub taken_proper : (k : StoredPicture) → Proper (picture_of k)
taken_proper k = resumed_proper (phase_of k) k.bytes
