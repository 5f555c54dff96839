use Rattle.std.proofs.Common.{List, ℕ, [], take, Option, None, Some, IfSome, Result, OnOk, subst}
use Rattle.std.specs.Option.{option_map}
use Rattle.std.specs.Io.KnownBytes.{Appends}
use Rattle.std.proofs.lemmas.Result.{on_ok_weaker}
use Rattle.listing.specs.Listing.{listing}
use Rattle.listing.proofs.list.Goals as goal

-- what was read of an input is its front
front_listed : {T E : Type 0} (r : Result T E) (known : Option (List ℕ)) (a b : Option (List ℕ)) (n : ℕ) (bytes : List ℕ) → IfSome (option_map (take n) known) (λ xs. Appends (Some []) (Some bytes) xs) → OnOk r (Appends a b (listing bytes)) → OnOk r (IfSome known (λ xs. Appends a b (listing (take n xs))))
front_listed r None a b n bytes read listed = on_ok_weaker r (λ _. tt) listed
front_listed r (Some xs) a b n bytes read listed = subst (λ t. OnOk r (Appends a b (listing t))) read listed

pub returns : goal.returns
returns g c =
    let bytes = c.copy.new.writer.items in
    let read = rw (c.take.ensures.limit, c.take.ensures.inner, c.new-bytes.ensures) at c.in_ok-copy.ensures.bytes in
    let text = rw (c.as_slice-2.ensures.value, c.put_listing.ensures, c.new-text.ensures, c.as_slice.ensures.value) at c.write_all.ensures.bytes in
    front_listed _ _ _ _ 46090 bytes read text
