-- Equations that hold in every commutative ring, by computation. `ring R env e f refl` proves that e and f have one
-- value where their variables are the members of `env`: both are multiplied out into one sorted sum.
use Rattle.std.proofs.Common.{◌≡◌, ℕ, zero, suc, List, [], ◌∷◌, Bool, true, false, eqb, leb, ℤ, pos, negsuc, ◌+ℤ◌, ◌*ℤ◌, refl, sym, ◌∙◌, ap}
use Rattle.std.proofs.Common.{eqb-true}

pub record Ring : Type 1 where
  pub carrier : Type 0
  pub add : carrier → carrier → carrier
  pub mul : carrier → carrier → carrier
  pub neg : carrier → carrier
  pub of : ℤ → carrier
  pub add_assoc : (a b c : carrier) → add (add a b) c ≡ add a (add b c)
  pub add_comm : (a b : carrier) → add a b ≡ add b a
  pub add-zero : (a : carrier) → add a (of (pos 0)) ≡ a
  pub mul_assoc : (a b c : carrier) → mul (mul a b) c ≡ mul a (mul b c)
  pub mul_comm : (a b : carrier) → mul a b ≡ mul b a
  pub mul-one : (a : carrier) → mul a (of (pos 1)) ≡ a
  pub mul-zero : (a : carrier) → mul a (of (pos 0)) ≡ of (pos 0)
  pub mul-add : (a b c : carrier) → mul a (add b c) ≡ add (mul a b) (mul a c)
  pub neg_is : (a : carrier) → neg a ≡ mul (of (negsuc 0)) a
  pub of-add : (a b : ℤ) → of (a +ℤ b) ≡ add (of a) (of b)
  pub of-mul : (a b : ℤ) → of (a *ℤ b) ≡ mul (of a) (of b)

infixl 60 ◌⊕◌ ◌⊖◌
infixl 70 ◌⊗◌
pub data Expr : Type 0 where
  var : ℕ → Expr
  num : ℤ → Expr
  ◌⊕◌ : Expr → Expr → Expr
  ◌⊗◌ : Expr → Expr → Expr
  minus : Expr → Expr

abbrev pub ◌⊖◌ : Expr → Expr → Expr
e ⊖ f = e ⊕ minus f

-- a sum of products: each with its coefficient and its sorted variables
pub data Poly : Type 0 where
  none : Poly
  term : ℤ → List ℕ → Poly → Poly

abbrev pub put_var : ℕ → List ℕ → List ℕ
put_var x [] = x ∷ []
put_var x (y ∷ n) = elim (leb x y) [ true ↦ x ∷ y ∷ n | false ↦ y ∷ put_var x n ]

abbrev pub join : List ℕ → List ℕ → List ℕ
join [] n = n
join (x ∷ m) n = put_var x (join m n)

abbrev pub same : List ℕ → List ℕ → Bool
same [] [] = true
same [] (y ∷ n) = false
same (x ∷ m) [] = false
same (x ∷ m) (y ∷ n) = elim (eqb x y) [ true ↦ same m n | false ↦ false ]

abbrev pub before : List ℕ → List ℕ → Bool
before [] n = true
before (x ∷ m) [] = false
before (x ∷ m) (y ∷ n) = elim (eqb x y) [ true ↦ before m n | false ↦ leb x y ]

abbrev pub put : ℤ → List ℕ → Poly → Poly
put c m none = term c m none
put c m (term d n p) =
    elim (same m n) [ true ↦ term (c +ℤ d) n p | false ↦ elim (before m n) [ true ↦ term c m (term d n p) | false ↦ term d n (put c m p) ] ]

abbrev pub sum_of : Poly → Poly → Poly
sum_of none q = q
sum_of (term c m p) q = put c m (sum_of p q)

abbrev pub times : ℤ → List ℕ → Poly → Poly
times c m none = none
times c m (term d n p) = put (c *ℤ d) (join m n) (times c m p)

abbrev pub product_of : Poly → Poly → Poly
product_of none q = none
product_of (term c m p) q = sum_of (times c m q) (product_of p q)

abbrev pub clean : Poly → Poly
clean none = none
clean (term (pos zero) m p) = clean p
clean (term (pos (suc c)) m p) = term (pos (suc c)) m (clean p)
clean (term (negsuc c) m p) = term (negsuc c) m (clean p)

abbrev pub poly : Expr → Poly
poly (var x) = term (pos 1) (x ∷ []) none
poly (num c) = term c [] none
poly (e ⊕ f) = sum_of (poly e) (poly f)
poly (e ⊗ f) = product_of (poly e) (poly f)
poly (minus e) = times (negsuc 0) [] (poly e)

abbrev pub normal : Expr → Poly
normal e = clean (poly e)

module _ (R : Ring) where
  abbrev pub at : List R.carrier → ℕ → R.carrier
  at [] x = R.of (pos 0)
  at (a ∷ env) zero = a
  at (a ∷ env) (suc x) = at env x

  abbrev pub value : List R.carrier → Expr → R.carrier
  value env (var x) = at env x
  value env (num c) = R.of c
  value env (e ⊕ f) = R.add (value env e) (value env f)
  value env (e ⊗ f) = R.mul (value env e) (value env f)
  value env (minus e) = R.neg (value env e)

  abbrev one_is : List R.carrier → List ℕ → R.carrier
  one_is env [] = R.of (pos 1)
  one_is env (x ∷ m) = R.mul (at env x) (one_is env m)

  abbrev all_is : List R.carrier → Poly → R.carrier
  all_is env none = R.of (pos 0)
  all_is env (term c m p) = R.add (R.mul (R.of c) (one_is env m)) (all_is env p)

  mul-left : (a b c : R.carrier) → R.mul a (R.mul b c) ≡ R.mul b (R.mul a c)
  mul-left a b c = sym (R.mul_assoc a b c) ∙ ap (λ x. R.mul x c) (R.mul_comm a b) ∙ R.mul_assoc b a c

  add-left : (a b c : R.carrier) → R.add a (R.add b c) ≡ R.add b (R.add a c)
  add-left a b c = sym (R.add_assoc a b c) ∙ ap (λ x. R.add x c) (R.add_comm a b) ∙ R.add_assoc b a c

  add-mul : (a b c : R.carrier) → R.mul (R.add a b) c ≡ R.add (R.mul a c) (R.mul b c)
  add-mul a b c = R.mul_comm (R.add a b) c ∙ R.mul-add c a b ∙ (cc (R.mul_comm c a, R.mul_comm c b))

  zero-add : (a : R.carrier) → R.add (R.of (pos 0)) a ≡ a
  zero-add a = R.add_comm (R.of (pos 0)) a ∙ R.add-zero a

  one-mul : (a : R.carrier) → R.mul (R.of (pos 1)) a ≡ a
  one-mul a = R.mul_comm (R.of (pos 1)) a ∙ R.mul-one a

  zero-mul : (a : R.carrier) → R.mul (R.of (pos 0)) a ≡ R.of (pos 0)
  zero-mul a = R.mul_comm (R.of (pos 0)) a ∙ R.mul-zero a

  put_var-is : (env : List R.carrier) (x : ℕ) (n : List ℕ) → one_is env (put_var x n) ≡ R.mul (at env x) (one_is env n)
  put_var-is env x [] = refl
  put_var-is env x (y ∷ n) =
      elim (leb x y) as (λ b. one_is env (elim b [ true ↦ x ∷ y ∷ n | false ↦ y ∷ put_var x n ])
      ≡ R.mul (at env x) (R.mul (at env y) (one_is env n)))
      [ true ↦ refl | false ↦ ap (R.mul (at env y)) (put_var-is env x n) ∙ mul-left (at env y) (at env x) (one_is env n) ]

  join-is : (env : List R.carrier) (m n : List ℕ) → one_is env (join m n) ≡ R.mul (one_is env m) (one_is env n)
  join-is env [] n = sym (one-mul (one_is env n))
  join-is env (x ∷ m) n =
      put_var-is env x (join m n) ∙ ap (R.mul (at env x)) (join-is env m n) ∙ sym (R.mul_assoc (at env x) (one_is env m) (one_is env n))

  same-is : (env : List R.carrier) (m n : List ℕ) → same m n ≡ true → one_is env m ≡ one_is env n
  same-is env [] [] h = refl
  same-is env [] (y ∷ n) h = cc
  same-is env (x ∷ m) [] h = cc
  same-is env (x ∷ m) (y ∷ n) h =
      (elim (eqb x y) as (λ b. eqb x y ≡ b → elim b [ true ↦ same m n | false ↦ false ] ≡ true → one_is env (x ∷ m) ≡ one_is env (y ∷ n))
      [ true ↦ λ e p. (let i : x ≡ y = eqb-true x y e in let t = same-is env m n p in cc) | false ↦ λ e p. cc ]) refl h

  put-is : (env : List R.carrier) (c : ℤ) (m : List ℕ) (p : Poly)
      → all_is env (put c m p) ≡ R.add (R.mul (R.of c) (one_is env m)) (all_is env p)
  put-is env c m none = refl
  put-is env c m (term d n p) =
      (elim (same m n) as (λ b. same m n ≡ b
      → all_is env (elim b [
        | true ↦ term (c +ℤ d) n p
        | false ↦ elim
            (before m n) [ true ↦ term c m (term d n p) | false ↦ term d n (put c m p) ]
      ])
      ≡ R.add (R.mul (R.of c) (one_is env m)) (all_is env (term d n p))) [
        | true ↦ λ e.
            ap (λ x. R.add (R.mul x (one_is env n)) (all_is env p)) (R.of-add c d)
            ∙ ap (λ x. R.add x (all_is env p)) (add-mul (R.of c) (R.of d) (one_is env n))
            ∙ R.add_assoc (R.mul (R.of c) (one_is env n)) (R.mul (R.of d) (one_is env n)) (all_is env p)
            ∙ ap (λ x. R.add (R.mul (R.of c) x) (all_is env (term d n p))) (sym (same-is env m n e))
        | false ↦ λ e. elim (before m n) as
            (λ b. all_is env (elim b [ true ↦ term c m (term d n p) | false ↦ term d n (put c m p) ])
            ≡ R.add (R.mul (R.of c) (one_is env m)) (all_is env (term d n p))) [
              | true ↦ refl
              | false ↦ ap (R.add (R.mul (R.of d) (one_is env n))) (put-is env c m p)
                  ∙ add-left (R.mul (R.of d) (one_is env n)) (R.mul (R.of c) (one_is env m)) (all_is env p)
            ]
      ]) refl

  sum_of-is : (env : List R.carrier) (p q : Poly) → all_is env (sum_of p q) ≡ R.add (all_is env p) (all_is env q)
  sum_of-is env none q = sym (zero-add (all_is env q))
  sum_of-is env (term c m p) q =
      put-is env c m (sum_of p q) ∙ ap (R.add (R.mul (R.of c) (one_is env m))) (sum_of-is env p q)
      ∙ sym (R.add_assoc (R.mul (R.of c) (one_is env m)) (all_is env p) (all_is env q))

  four : (a b c d : R.carrier) → R.mul (R.mul a b) (R.mul c d) ≡ R.mul (R.mul a c) (R.mul b d)
  four a b c d = R.mul_assoc a b (R.mul c d) ∙ ap (R.mul a) (mul-left b c d) ∙ sym (R.mul_assoc a c (R.mul b d))

  times-is : (env : List R.carrier) (c : ℤ) (m : List ℕ) (p : Poly)
      → all_is env (times c m p) ≡ R.mul (R.mul (R.of c) (one_is env m)) (all_is env p)
  times-is env c m none = sym (R.mul-zero (R.mul (R.of c) (one_is env m)))
  times-is env c m (term d n p) =
      put-is env (c *ℤ d) (join m n) (times c m p)
      ∙ (let i = R.of-mul c d in let j = join-is env m n in let t = times-is env c m p in
      let f = four (R.of c) (R.of d) (one_is env m) (one_is env n) in
      let a = R.mul-add (R.mul (R.of c) (one_is env m)) (R.mul (R.of d) (one_is env n)) (all_is env p) in cc)

  product_of-is : (env : List R.carrier) (p q : Poly) → all_is env (product_of p q) ≡ R.mul (all_is env p) (all_is env q)
  product_of-is env none q = sym (zero-mul (all_is env q))
  product_of-is env (term c m p) q =
      sum_of-is env (times c m q) (product_of p q)
      ∙ (let t = times-is env c m q in let r = product_of-is env p q in let a =
      add-mul (R.mul (R.of c) (one_is env m)) (all_is env p) (all_is env q) in cc)

  clean-is : (env : List R.carrier) (p : Poly) → all_is env (clean p) ≡ all_is env p
  clean-is env none = refl
  clean-is env (term (pos zero) m p) =
      clean-is env p ∙ sym (zero-add (all_is env p)) ∙ ap (λ x. R.add x (all_is env p)) (sym (zero-mul (one_is env m)))
  clean-is env (term (pos (suc c)) m p) = ap (R.add (R.mul (R.of (pos (suc c))) (one_is env m))) (clean-is env p)
  clean-is env (term (negsuc c) m p) = ap (R.add (R.mul (R.of (negsuc c)) (one_is env m))) (clean-is env p)

  poly-is : (env : List R.carrier) (e : Expr) → all_is env (poly e) ≡ value env e
  poly-is env (var x) = R.add-zero (R.mul (R.of (pos 1)) (R.mul (at env x) (R.of (pos 1)))) ∙ one-mul (R.mul (at env x) (R.of (pos 1)))
      ∙ R.mul-one (at env x)
  poly-is env (num c) = R.add-zero (R.mul (R.of c) (R.of (pos 1))) ∙ R.mul-one (R.of c)
  poly-is env (e ⊕ f) = sum_of-is env (poly e) (poly f) ∙ (let p = poly-is env e in let q = poly-is env f in cc)
  poly-is env (e ⊗ f) = product_of-is env (poly e) (poly f) ∙ (let p = poly-is env e in let q = poly-is env f in cc)
  poly-is env (minus e) =
      times-is env (negsuc 0) [] (poly e)
      ∙ (let p = poly-is env e in let n = R.neg_is (value env e) in let o = R.mul-one (R.of (negsuc 0)) in cc)

  pub ring : (env : List R.carrier) (e f : Expr) → normal e ≡ normal f → value env e ≡ value env f
  ring env e f h =
      sym (poly-is env e) ∙ sym (clean-is env (poly e)) ∙ ap (all_is env) h ∙ clean-is env (poly f) ∙ poly-is env f

-- Equations that follow from others: a - b is the sum of each c * (l - r), where l ≡ r is known.
pub data Known : Type 0 where
  done : Known
  by : Expr → Expr → Expr → Known → Known

abbrev pub parts : Known → Expr
parts done = num (pos 0)
parts (by c l r rest) = c ⊗ (l ⊖ r) ⊕ parts rest

module _ (R : Ring) where
  abbrev pub Holds : List R.carrier → Known → Type 0
  Holds env done = Unit {0}
  Holds env (by c l r rest) = (value R env l ≡ value R env r) × Holds env rest

  parts-is : (env : List R.carrier) (known : Known) → Holds env known → value R env (parts known) ≡ R.of (pos 0)
  parts-is env done h = refl
  parts-is env (by c l r rest) h =
      ap (λ x. R.add (R.mul (value R env c) (R.add x (R.neg (value R env r)))) (value R env (parts rest))) h.0
      ∙ ap (R.add (value R env (c ⊗ (r ⊖ r)))) (parts-is env rest h.1)
      ∙ ring R (value R env c ∷ value R env r ∷ []) (var 0 ⊗ (var 1 ⊖ var 1) ⊕ num (pos 0)) (num (pos 0)) refl

  pub ring_from : (env : List R.carrier) (e f : Expr) (known : Known) → Holds env known → normal (e ⊖ f) ≡ normal (parts known)
      → value R env e ≡ value R env f
  ring_from env e f known h n =
      let zero_is = ring R env (e ⊖ f) (parts known) n ∙ parts-is env known h in
      ring R (value R env e ∷ value R env f ∷ []) (var 0) ((var 0 ⊖ var 1) ⊕ var 1) refl
      ∙ ap (λ x. R.add x (value R env f)) zero_is
      ∙ ring R (value R env f ∷ []) (num (pos 0) ⊕ var 0) (var 0) refl
