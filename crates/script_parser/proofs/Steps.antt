-- What is known of steps that did not fail.
use Rattle.script_parser.proofs.Prelude.{◌≡◌, Bool, true, false, List, Some, Result, Ok, Err, refl, ParseFault, TokenView, ◌>>=◌, allowed_at}

abbrev pub done : {A : Type 0} → A → Result A ParseFault
done x = Ok x

pub ok_is : {A : Type 0} (x y : A) → done x ≡ done y → x ≡ y
ok_is x y e = cc

pub some_is : {A : Type 0} (x y : A) → Some x ≡ Some y → x ≡ y
some_is x y e = cc

-- the value of a step that did not fail, and what was read after it
pub bind_ok : {A B : Type 0} (r : Result A ParseFault) (f : A → Result B ParseFault) (y : B) → (r >>= f) ≡ Ok y → (x : A) × (r ≡ Ok x) × (f x ≡ Ok y)
bind_ok (Ok x) f y e = (x, refl, e)
bind_ok (Err d) f y e = absurd cc

pub step_ok : {A B : Type 0} {r : Result A ParseFault} {f : A → Result B ParseFault} {y : B} → (r >>= f) ≡ Ok y → (x : A) × (r ≡ Ok x) × (f x ≡ Ok y)
step_ok {A} {B} {r} {f} {y} e = bind_ok r f y e

-- what may stand there, and which tokens begin with it
pub allowed_is : (b : Bool) (ts us : List TokenView) → allowed_at b ts ≡ Ok us → (b ≡ true) × (ts ≡ us)
allowed_is true ts us e = (refl, ok_is ts us e)
allowed_is false ts us e = absurd cc

pub allowed_now : (b : Bool) (ts : List TokenView) → b ≡ true → allowed_at b ts ≡ Ok ts
allowed_now true ts e = refl
allowed_now false ts e = absurd cc

-- a step after which there is a fault in each case
pub never_ok : {A B : Type 0} (r : Result A ParseFault) (f : ParseFault) (y : B) → (r >>= λ x. Err f) ≡ Ok y → ⊥
never_ok (Ok x) f y e = cc
never_ok (Err d) f y e = cc
