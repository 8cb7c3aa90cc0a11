-- A step of the reading: it takes the frame of a line that is at fault on no ground, and refuses another line on the smallest ground that fits it.
use Rattle.std.proofs.Common.{◌≡◌, ℕ, ◌<◌, Bool, true, false, cond, List, Some, None, Ok, Err, Option, Result, refl, arith}
use Rattle.dumps.specs.declared.ground.Ground.{Ground}
use Rattle.dumps.specs.declared.ground.Ground.TheVariants.{Spelling, Shape, Order, Domains, Surplus, Delays, Absent, Backward, Open}
use Rattle.dumps.specs.Ground.{number_of}
use Rattle.dumps.specs.Frame.{Frame, kind, Says}
use Rattle.dumps.specs.Fault.{Breaks, Fault, unspelled, shapeless, breaking}
use Rattle.dumps.specs.Reading.{State, held, parsed, may_stand, breach, refuse_unless, grown, or_refuse, admitted, framed, spelt, step}
use Rattle.dumps.proofs.Bytes.{held_right, held_all}
use Rattle.dumps.proofs.Frames.{says_right, says_all}
use Rattle.dumps.proofs.Grounds.{Follows, first_failed, checks, checks_past, breach_is, Broken, broken}

-- the state past a frame
abbrev pub next : State → Frame → State
next s f = record { reached = kind f; circuit = grown s.circuit f }

pub record Taken (frames : List Frame) (s : State) (line : List ℕ) (t : State) : Type 0 where
  pub frame : Frame
  pub says : Says line frame
  pub faultless : (g : Ground) → Fault frames line g → ⊥
  pub passed : first_failed (checks s frame) ≡ None
  pub moved : t ≡ next s frame

pub record Blamed (frames : List Frame) (line : List ℕ) (g : Ground) : Type 0 where
  pub fits : Fault frames line g
  pub smallest : (h : Ground) → number_of h < number_of g → Fault frames line h → ⊥

abbrev pub Stepped : List Frame → State → List ℕ → Result State Ground → Type 0
Stepped frames s line (Ok t) = Taken frames s line t
Stepped frames s line (Err g) = Blamed frames line g

-- a line says at most one frame
pub says_same : (line : List ℕ) (f g : Frame) → Says line f → Says line g → f ≡ g
says_same line f g a b =
    let (bytes, p, q) = says_all line f a in
    let (bytes', p', q') = says_all line g b in
    cc

number_low : (g : Ground) → 0 < number_of g
number_low Spelling = omega arith
number_low Shape = omega arith
number_low Order = omega arith
number_low Domains = omega arith
number_low Surplus = omega arith
number_low Delays = omega arith
number_low Absent = omega arith
number_low Backward = omega arith
number_low Open = omega arith

pub admitted_is : (s : State) (f : Frame) → admitted s f ≡ or_refuse (first_failed (checks s f)) (next s f)
admitted_is s f = go (may_stand s.reached (kind f))
  where
    go : (t : Bool) → cond t (or_refuse (breach s.circuit f) (next s f)) (Err Order) ≡ or_refuse (refuse_unless t Order (first_failed (checks_past s.circuit f))) (next s f)
    go true = rw (breach_is s.circuit f) refl
    go false = refl

module _ (frames : List Frame) (s : State) (follows : Follows frames s) (line : List ℕ) where
  -- a line that says a frame has just the faults by which the frame breaks rules
  fault_breaks : (f : Frame) → Says line f → (h : Ground) → Fault frames line h → Breaks frames h f
  fault_breaks f says h (unspelled never) = absurd (never says.0 says.1)
  fault_breaks f says h (shapeless never) = absurd (never f says)
  fault_breaks f says h (breaking g f' says' b) = rw (says_same line f f' says says') b

  past_order : (f : Frame) → Says line f → (o : Option Ground) → first_failed (checks s f) ≡ o → Broken frames s follows f o → Stepped frames s line (or_refuse o (next s f))
  past_order f says None e b = record { frame = f; says = says; faultless = λ g fault. b g (fault_breaks f says g fault); passed = e; moved = refl }
  past_order f says (Some g) e b =
      record { fits = breaking g f says b.0; smallest = λ h less fault. omega (arith, b.1 h (fault_breaks f says h fault)) }

  past_spelling : (bytes : List ℕ) → held line ≡ Some bytes → (o : Option Frame) → parsed bytes ≡ o → Stepped frames s line (framed s o)
  past_spelling bytes e None p = record { fits = shapeless unsaid; smallest = smallest }
    where
      unsaid : (f : Frame) → Says line f → ⊥
      unsaid f says =
          let (bytes', e', p') = says_all line f says in
          let z : ◌≡◌ {A = ℕ} 0 1 = cc in omega arith

      smallest : (h : Ground) → number_of h < number_of Shape → Fault frames line h → ⊥
      smallest h less (unspelled never) = never bytes (held_right line bytes e)
      smallest h less (shapeless never) = omega arith
      smallest h less (breaking g f says b) = unsaid f says
  past_spelling bytes e (Some f) p =
      rw (admitted_is s f) (past_order f (says_right line bytes f e p) (first_failed (checks s f)) refl (broken frames s follows f))

  spelling : (o : Option (List ℕ)) → held line ≡ o → Stepped frames s line (spelt s o)
  spelling None e =
      record {
        fits = unspelled λ bytes holds. let k = held_all line bytes holds in let z : ◌≡◌ {A = ℕ} 0 1 = cc in omega arith;
        smallest = λ h less fault. omega (arith, number_low h);
      }
  spelling (Some bytes) e = past_spelling bytes e (parsed bytes) refl

  pub stepped : Stepped frames s line (step s line)
  stepped = spelling (held line) refl
