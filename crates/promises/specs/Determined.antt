-- When a contract determines what comes back.
use Rattle.std.specs.Prelude.{◌≡◌}
use contract.Lifetimes.{Lfts}
use denote.Triple.Entry.{Args, Res}
use denote.Triple.Clauses.{Ended, Lasts, AtExit, at_exit}

module _ (T : Ended) where
  -- What a caller learns, of the arguments, the result and the parameters at exit.
  abbrev pub Learning : Type 1
  Learning = (κs : Lfts T.signature.lifetimes) → Args T.signature κs → Res T.signature κs → AtExit T κs → Type 0

  -- "Any two results the contract allows are proved equal": two results `r` and `s` of one call look the same, and `u` and `v`, what the lent buffers hold after each, are equal.
  abbrev pub DeterminedAs : Learning → {S : Lfts T.signature.lifetimes → Type 0} → ((κs : Lfts T.signature.lifetimes) → Res T.signature κs → S κs) → Type 0
  DeterminedAs Learnt look =
      (κs : Lfts T.signature.lifetimes) (a : Args T.signature κs) (r s : Res T.signature κs) (u v : Lasts T κs a) → Learnt κs a r (at_exit T κs a u) → Learnt κs a s (at_exit T κs a v) → (look κs r ≡ look κs s) × (u ≡ v)

  -- The whole result is looked at; of a returned reference only what it refers to is, by `DeterminedAs`.
  abbrev pub Determined : Learning → Type 0
  Determined Learnt = DeterminedAs Learnt (λ κs r. r)
