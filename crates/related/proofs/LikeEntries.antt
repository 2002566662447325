-- Clauses and entries that are alike; their sums and the kinds of their keys. Assumes nothing.
use mathlib.Core.Path.{◌≡◌, refl, ap, ap₂, ◌∙◌}
use mathlib.Core.List.Forall₂.{cons as cons₂}
use mathlib.Core.List.Forall₂.{nil as nil₂}
use mathlib.Core.List.{List, [], ◌∷◌, ◌++◌, map, Forall₂}
use mathlib.Core.Bool.{Bool, true, false, not, ◌&&◌, ◌||◌}
use Rattle.std.specs.Prelude.{Option, Some, None, option_map, is_some}
use Rattle.text.specs.Text.{same}
use Rattle.sheet.proofs.Paired.{Opt, o_none, o_some, opt_either, append₂}
use Rattle.rules.specs.Text.{Name, is, is_one, among}
use Rattle.rules.specs.Ast.{Add, AssignOp, Set, AddTo, SubFrom, Leaf, Expr, Exprs, Param, Clause, limits, denies, mints, after, Entry, Stmt, span, type_name}
use Rattle.rules.specs.Asking.{Rule, ret, ◌>>=◌, for_each}
use Rattle.rules.specs.declared.ty.Ty.{Ty}
use Rattle.rules.specs.Types.{literal, int_of}
use Rattle.rules.specs.Typing.{Dot, ident_of}
use Rattle.rules.specs.Arithmetic.{any, is_op, acknowledged, amount_of, is_minted_amount, bounded_addend, sum_terms, mentions, mentions_any, subtracts, upper_bounds, caps_from_above, limits_cap, limits_bound, same_target, without, is_sum, addends, is_mints, asset_params, bounded, check_sum, check_arithmetic}
use Rattle.rules.specs.KeyKinds.{Keyed, keyed_here, keyed_calls, keyed_calls_all, present, clause_exprs, body_exprs, entry_exprs, keyed_in, Use, name_params, is_keyed, is_name_key, uses_of, uses, check_key_kinds}
use Rattle.related.proofs.Alike.{Setting, a_ret, Alike, a_same, a_bind, a_some, a_maybe, a_each}
use Rattle.rules.proofs.Pure.{pure, p_uses}
use Rattle.related.proofs.Like.{SameField, Both, b_none, b_some, LeafLike, l_text, l_same, ExprLike, leaf~, unary~, binary~, field~, call~, wrap~, ExprsLike, nil~, more~, span_like, leaf_like, DotLike, dot_like, ident_like, ident_same, has_leaf}
use Rattle.related.proofs.LikeTyping.{of_type_lem}
use Rattle.related.proofs.LikeStatements.{StmtLike, guard~, bind~, emit~, assign~, do~}

pub data ClauseLike (S : Setting) : Clause → Clause → Type 0 where
  limits~ : {e f : Expr} → ExprLike S e f → ClauseLike S (limits e) (limits f)
  denies~ : {e f : Expr} → ExprLike S e f → ClauseLike S (denies e) (denies f)
  mints~ : ClauseLike S mints mints
  after~ : {t u f g : Option Expr} → Opt (ExprLike S) t u → Opt (ExprLike S) f g → ClauseLike S (after t f) (after u g)

-- a clause that no rule reads
pub data IdleClause : Clause → Type 0 where
  idle : IdleClause (after None None)

-- clauses one by one, but for idle ones on the left
pub data ClausesLike (S : Setting) : List Clause → List Clause → Type 0 where
  c_nil : ClausesLike S [] []
  c_cons : {c d : Clause} {cs ds : List Clause} → ClauseLike S c d → ClausesLike S cs ds → ClausesLike S (c ∷ cs) (d ∷ ds)
  c_skip : {c : Clause} {cs ds : List Clause} → IdleClause c → ClausesLike S cs ds → ClausesLike S (c ∷ cs) ds

pub each_clauses : {S : Setting} {cs ds : List Clause} → Forall₂ (ClauseLike S) cs ds → ClausesLike S cs ds
each_clauses nil₂ = c_nil
each_clauses (cons₂ h k) = c_cons h (each_clauses k)

pub a_clauses : {S : Setting} {cs ds : List Clause} {f g : Clause → Rule Unit}
    → ((c d : Clause) → ClauseLike S c d → Alike S (f c) (g d)) → ((c : Clause) → IdleClause c → Alike S (f c) (ret tt)) → ClausesLike S cs ds → Alike S (for_each cs f) (for_each ds g)
unfolding for_each ◌>>=◌
a_clauses k i c_nil = a_ret tt
a_clauses k i (c_cons h r) = a_bind (k _ _ h) (λ _. a_clauses k i r)
a_clauses {f = f} {g = g} k i (c_skip {c = c} {cs = cs} {ds = ds} h r) = a_bind {p = f c} {q = ret tt} {f = λ _. for_each cs f} {g = λ _. for_each ds g} (i c h) (λ _. a_clauses k i r)

any_clauses : {S : Setting} {cs ds : List Clause} (p : Clause → Bool) → ((c d : Clause) → ClauseLike S c d → p c ≡ p d) → ((c : Clause) → IdleClause c → p c ≡ false) → ClausesLike S cs ds → any p cs ≡ any p ds
unfolding any
any_clauses p k i c_nil = refl
any_clauses p k i (c_cons h r) = ap₂ ◌||◌ (k _ _ h) (any_clauses p k i r)
any_clauses p k i (c_skip {c = c} h r) = rw (i c h) (any_clauses p k i r)

pub record EntryLike (S : Setting) (a b : Entry) : Type 0 where
  pub params : a.params ≡ b.params
  pub clauses : ClausesLike S a.clauses b.clauses
  pub body : Forall₂ (StmtLike S) a.body b.body

-- the map's name and the key of a keyed call
record KeyedLike (S : Setting) (a b : Keyed) : Type 0 where
  map : a.0 ≡ b.0
  same_field : SameField S a.0
  key : ExprLike S a.1 b.1

any_like : {A B : Type 0} {R : A → B → Type 0} {as' : List A} {bs : List B} (p : A → Bool) (q : B → Bool) → ((a : A) (b : B) → R a b → p a ≡ q b) → Forall₂ R as' bs → any p as' ≡ any q bs
unfolding any
any_like p q k nil₂ = refl
any_like p q k (cons₂ r h) = ap₂ ◌||◌ (k _ _ r) (any_like p q k h)

idle_cap : (x : Name) (c : Clause) → IdleClause c → limits_cap x c ≡ false
unfolding limits_cap
idle_cap x c idle = refl

idle_mints : (c : Clause) → IdleClause c → is_mints c ≡ false
unfolding is_mints
idle_mints c idle = refl

module _ {S : Setting} where
  -- ------------------------------------------------------------ terms

  acknowledged_like : {e f : Expr} → ExprLike S e f → acknowledged e ≡ acknowledged f
  unfolding acknowledged
  acknowledged_like (leaf~ l h) = refl
  acknowledged_like (unary~ l h) = refl
  acknowledged_like (binary~ l h k) = refl
  acknowledged_like (field~ l h) = refl
  acknowledged_like (call~ l h k) = refl
  acknowledged_like (wrap~ l h) = refl

  amount_like : {e f : Expr} (xs : List Name) → ExprLike S e f → amount_of e xs ≡ amount_of f xs
  unfolding amount_of
  amount_like xs h = by_cases (dot_like h)
    where
      one : Option Name → Bool
      one o = elim o [ None ↦ false | Some x ↦ among x xs ]

      by : Option Dot → Bool
      by o = elim o [ None ↦ false | Some d ↦ is d.name "amount" && one (ident_of d.base) ]

      by_cases : {o u : Option Dot} → Opt (DotLike S) o u → by o ≡ by u
      by_cases o_none = refl
      by_cases (o_some r) = rw (r.name, ident_same r.base)

  is-int : {e f : Expr} → ExprLike S e f → is_some (int_of e) ≡ is_some (int_of f)
  unfolding int_of literal
  is-int h = by_cases (leaf_like h)
    where
      by : Option Leaf → Bool
      by o = is_some {T = Name} (elim o [ None ↦ None | Some k ↦ literal k ])

      leaf : {a b : Leaf} → LeafLike S a b → by (Some a) ≡ by (Some b)
      leaf (l_text f) = refl
      leaf (l_same h) = refl

      by_cases : {o u : Option Leaf} → Opt (LeafLike S) o u → by o ≡ by u
      by_cases o_none = refl
      by_cases (o_some r) = leaf r

  terms_like : {e f : Expr} → ExprLike S e f → Forall₂ (ExprLike S) (sum_terms e) (sum_terms f)
  unfolding sum_terms
  terms_like (leaf~ l h) = cons₂ (leaf~ l h) nil₂
  terms_like (unary~ l h) = cons₂ (unary~ l h) nil₂
  terms_like (binary~ {o = o} l h k) = by_cases (is_op o Add) (append₂ (terms_like h) (terms_like k)) (cons₂ (binary~ l h k) nil₂)
    where
      by_cases : {as' bs : List Expr} {cs ds : List Expr} (b : Bool) → Forall₂ (ExprLike S) as' bs → Forall₂ (ExprLike S) cs ds → Forall₂ (ExprLike S) (elim b [ true ↦ as' | false ↦ cs ]) (elim b [ true ↦ bs | false ↦ ds ])
      by_cases true h k = h
      by_cases false h k = k
  terms_like (field~ l h) = cons₂ (field~ l h) nil₂
  terms_like (call~ l h k) = cons₂ (call~ l h k) nil₂
  terms_like (wrap~ l h) = cons₂ (wrap~ l h) nil₂

  -- ------------------------------------------------------------ limits

  mutual
    unfolding mentions

    mentions_like : {e f : Expr} (x : Name) → ExprLike S e f → mentions e x ≡ mentions f x
    mentions_like x (leaf~ l h) = has_leaf (x ∷ []) h
    mentions_like x (unary~ l h) = mentions_like x h
    mentions_like x (binary~ l h k) = rw (mentions_like x h, mentions_like x k)
    mentions_like x (field~ l h) = mentions_like x h
    mentions_like x (call~ l h k) = rw (mentions_like x h, mentions_any_lem x k)
    mentions_like x (wrap~ l h) = refl

    mentions_any_lem : {es fs : Exprs} (x : Name) → ExprsLike S es fs → mentions_any es x ≡ mentions_any fs x
    mentions_any_lem x nil~ = refl
    mentions_any_lem x (more~ h k) = rw (mentions_like x h, mentions_any_lem x k)

  subtracts_like : {e f : Expr} (x : Name) → ExprLike S e f → subtracts e x ≡ subtracts f x
  unfolding subtracts
  subtracts_like x (leaf~ l h) = refl
  subtracts_like x (unary~ l h) = refl
  subtracts_like x (binary~ l h k) = rw (mentions_like x h, mentions_like x k)
  subtracts_like x (field~ l h) = refl
  subtracts_like x (call~ l h k) = refl
  subtracts_like x (wrap~ l h) = refl

  bounds_like : {a b c d : Expr} (x : Name) → ExprLike S a c → ExprLike S b d → upper_bounds a b x ≡ upper_bounds c d x
  unfolding upper_bounds
  bounds_like x h k = rw (mentions_like x h, mentions_like x k, subtracts_like x k)

  caps_like : {e f : Expr} (x : Name) → ExprLike S e f → caps_from_above e x ≡ caps_from_above f x
  unfolding caps_from_above
  caps_like x (leaf~ l h) = refl
  caps_like x (unary~ l h) = refl
  caps_like x (binary~ l h k) = rw (caps_like x h, caps_like x k, bounds_like x h k, bounds_like x k h)
  caps_like x (field~ l h) = refl
  caps_like x (call~ l h k) = refl
  caps_like x (wrap~ l h) = refl

  cap_like : {c d : Clause} (x : Name) → ClauseLike S c d → limits_cap x c ≡ limits_cap x d
  unfolding limits_cap
  cap_like x (limits~ h) = caps_like x h
  cap_like x (denies~ h) = refl
  cap_like x mints~ = refl
  cap_like x (after~ h k) = refl

  bound_like : {a b : Entry} (x : Name) → EntryLike S a b → limits_bound a x ≡ limits_bound b x
  unfolding limits_bound
  bound_like x h = any_clauses (limits_cap x) (λ c d k. cap_like x k) (idle_cap x) h.clauses

  -- ------------------------------------------------------------ sums

  target_like : {a b c d : Expr} → ExprLike S a c → ExprLike S b d → same_target a b ≡ same_target c d
  unfolding same_target
  target_like {c = c} h k = rw (same_target, ident_same h) (ap (λ (o : Option Name). elim (ident_of c) [ None ↦ false | Some x ↦ elim o [ None ↦ false | Some y ↦ same x y ] ]) (ident_same k))

  without_like : {t u : Expr} {es fs : List Expr} → ExprLike S t u → Forall₂ (ExprLike S) es fs → Opt (Forall₂ (ExprLike S)) (without t es) (without u fs)
  unfolding without
  without_like h nil₂ = o_none
  without_like {t} {u} h (cons₂ {a = a} {b = b} {l₁ = as'} {l₂ = bs} k r) = rw (without, target_like h k) (by_cases (same_target u b) (without_like h r))
    where
      others : {o v : Option (List Expr)} → Opt (Forall₂ (ExprLike S)) o v → Opt (Forall₂ (ExprLike S)) (option_map (λ us. a ∷ us) o) (option_map (λ us. b ∷ us) v)
      others o_none = o_none
      others (o_some q) = o_some (cons₂ k q)

      by_cases : (c : Bool) {o v : Option (List Expr)} → Opt (Forall₂ (ExprLike S)) o v
          → Opt (Forall₂ (ExprLike S)) (elim c [ true ↦ Some as' | false ↦ option_map (λ us. a ∷ us) o ]) (elim c [ true ↦ Some bs | false ↦ option_map (λ us. b ∷ us) v ])
      by_cases true q = o_some r
      by_cases false q = others q

  sum_like : {e f : Expr} → ExprLike S e f → is_sum e ≡ is_sum f
  unfolding is_sum
  sum_like (leaf~ l h) = refl
  sum_like (unary~ l h) = refl
  sum_like (binary~ l h k) = refl
  sum_like (field~ l h) = refl
  sum_like (call~ l h k) = refl
  sum_like (wrap~ l h) = refl

  addends_like : {t u v w : Expr} (o : AssignOp) → ExprLike S t u → ExprLike S v w → Opt (Forall₂ (ExprLike S)) (addends o t v) (addends o u w)
  unfolding addends
  addends_like {w = w} Set h k = rw (addends, sum_like k) (opt_either (is_sum w) (without_like h (terms_like k)) o_none)
  addends_like AddTo h k = o_some (terms_like k)
  addends_like SubFrom h k = o_none

  is_mints_lem : {c d : Clause} → ClauseLike S c d → is_mints c ≡ is_mints d
  unfolding is_mints
  is_mints_lem (limits~ h) = refl
  is_mints_lem (denies~ h) = refl
  is_mints_lem mints~ = refl
  is_mints_lem (after~ h k) = refl

  bounded_like : {a b : Entry} {e f : Expr} → EntryLike S a b → ExprLike S e f → bounded a e ≡ bounded b f
  unfolding bounded bounded_addend is_minted_amount
  bounded_like {b = b} h k = rw (is-int k, h.params, amount_like (asset_params b.params) k, amount_like (map (λ p. p.name) b.params) k, any_clauses is_mints (λ c d q. is_mints_lem q) idle_mints h.clauses)

  a_sum : {a b : Entry} {s u : Stmt} (ps : List (Name × Ty)) → EntryLike S a b → StmtLike S s u → Alike S (check_sum a ps s) (check_sum b ps u)
  unfolding check_sum
  a_sum ps q (guard~ h) = a_ret tt
  a_sum ps q (bind~ h) = a_ret tt
  a_sum ps q (emit~ k h) = a_ret tt
  a_sum {a} {b} ps q (assign~ {o = o} {w = w} h k) =
      a_some (rw (acknowledged_like k) (opt_either (acknowledged w) o_none (addends_like o h k)))
      (λ es fs r.
      let n : any (λ t. not (bounded a t)) es ≡ any (λ t. not (bounded b t)) fs = any_like _ _ (λ e f n. ap not (bounded_like q n)) r in
      rw n (a_maybe (ident_same h) (λ x. rw (bound_like x q) (a_same (search pure)))))
  a_sum ps q (do~ h) = a_ret tt

  pub a_sums : {a b : Entry} {ps qs : List (Name × Ty)} → ps ≡ qs → EntryLike S a b → Alike S (check_arithmetic a ps) (check_arithmetic b qs)
  unfolding check_arithmetic
  a_sums {ps = ps} e h = rw (← e) (a_each h.body (λ s u k. a_sum ps h k))

  -- ------------------------------------------------------------ the kinds of keys

  here_like : {o u : Option Dot} {es fs : Exprs} → Opt (DotLike S) o u → ExprsLike S es fs → Forall₂ (KeyedLike S) (keyed_here o es) (keyed_here u fs)
  unfolding keyed_here
  here_like o_none h = nil₂
  here_like (o_some r) nil~ = nil₂
  here_like (o_some {b = d} r) (more~ {e = e} {f = f} h k) = rw r.name (by_cases (is_one d.name ("set" ∷ "get" ∷ "contains" ∷ "insert" ∷ "remove" ∷ "credit" ∷ "debit" ∷ [])) (ident_like r.base))
    where
      by : Bool → Expr → Option Name → List Keyed
      by b k o = elim o [ None ↦ [] | Some x ↦ elim b [ true ↦ (x, k) ∷ [] | false ↦ [] ] ]

      by_cases : (b : Bool) {o u : Option Name} → Both (SameField S) o u → Forall₂ (KeyedLike S) (by b e o) (by b f u)
      by_cases b b_none = nil₂
      by_cases true (b_some n) = cons₂ (record { map = refl; same_field = n; key = h }) nil₂
      by_cases false (b_some n) = nil₂

  mutual
    unfolding keyed_calls

    calls_like : {e f : Expr} → ExprLike S e f → Forall₂ (KeyedLike S) (keyed_calls e) (keyed_calls f)
    calls_like (leaf~ l h) = nil₂
    calls_like (unary~ l h) = calls_like h
    calls_like (binary~ l h k) = append₂ (calls_like h) (calls_like k)
    calls_like (field~ l h) = calls_like h
    calls_like (call~ l h k) = append₂ (here_like (dot_like h) k) (append₂ (calls_like h) (calls_all k))
    calls_like (wrap~ l h) = calls_like h

    calls_all : {es fs : Exprs} → ExprsLike S es fs → Forall₂ (KeyedLike S) (keyed_calls_all es) (keyed_calls_all fs)
    calls_all nil~ = nil₂
    calls_all (more~ h k) = append₂ (calls_like h) (calls_all k)

  present_like : {o u : Option Expr} → Opt (ExprLike S) o u → Forall₂ (ExprLike S) (present o) (present u)
  unfolding present
  present_like o_none = nil₂
  present_like (o_some h) = cons₂ h nil₂

  clauses_like : {cs ds : List Clause} → ClausesLike S cs ds → Forall₂ (ExprLike S) (clause_exprs cs) (clause_exprs ds)
  unfolding clause_exprs present
  clauses_like c_nil = nil₂
  clauses_like (c_cons (limits~ h) k) = cons₂ h (clauses_like k)
  clauses_like (c_cons (denies~ h) k) = cons₂ h (clauses_like k)
  clauses_like (c_cons mints~ k) = clauses_like k
  clauses_like (c_cons (after~ h j) k) = append₂ (present_like h) (append₂ (present_like j) (clauses_like k))
  clauses_like (c_skip idle k) = clauses_like k

  body_like : {ss us : List Stmt} → Forall₂ (StmtLike S) ss us → Forall₂ (ExprLike S) (body_exprs ss) (body_exprs us)
  unfolding body_exprs
  body_like nil₂ = nil₂
  body_like (cons₂ (guard~ h) k) = cons₂ h (body_like k)
  body_like (cons₂ (bind~ h) k) = cons₂ h (body_like k)
  body_like (cons₂ (emit~ q h) k) = append₂ h (body_like k)
  body_like (cons₂ (assign~ h j) k) = cons₂ h (cons₂ j (body_like k))
  body_like (cons₂ (do~ h) k) = cons₂ h (body_like k)

  entry_exprs_lem : {a b : Entry} → EntryLike S a b → Forall₂ (ExprLike S) (entry_exprs a) (entry_exprs b)
  unfolding entry_exprs
  entry_exprs_lem h = append₂ (clauses_like h.clauses) (body_like h.body)

  keyed_in_lem : {es fs : List Expr} → Forall₂ (ExprLike S) es fs → Forall₂ (KeyedLike S) (keyed_in es) (keyed_in fs)
  unfolding keyed_in
  keyed_in_lem nil₂ = nil₂
  keyed_in_lem (cons₂ h k) = append₂ (calls_like h) (keyed_in_lem k)

  name_key : {e f : Expr} (names : List Name) → ExprLike S e f → is_name_key names e ≡ is_name_key names f
  unfolding is_name_key
  name_key names h = rw (is_name_key, ident_same h)

is_keyed_lem : (S : Setting) (x : Name) → SameField S x → is_keyed S.left x ≡ is_keyed S.right x
unfolding is_keyed
is_keyed_lem S x h = of_type_lem false (λ f. is_one (type_name f.ty) ("Map" ∷ "Registry" ∷ [])) (λ f g e. rw e) h

module _ (S : Setting) where
  uses_of_lem : {ks js : List Keyed} (names : List Name) → Forall₂ (KeyedLike S) ks js → uses_of S.left names ks ≡ uses_of S.right names js
  unfolding uses_of
  uses_of_lem names nil₂ = refl
  uses_of_lem names (cons₂ {a = i} {b = j} {l₁ = ks} {l₂ = js} h k) =
      let p : is_keyed S.left i.0 ≡ is_keyed S.right j.0 = rw h.map (is_keyed_lem S j.0 (rw h.map at h.same_field)) in
      by_cases p (rw (h.map, name_key names h.key, span_like h.key)) (uses_of_lem names k)
    where
      told : Keyed → Use
      told k = record { map = k.0; is_name = is_name_key names k.1; at = span k.1 }

      by : Bool → Use → List Use → List Use
      by b u us = elim b [ true ↦ u ∷ us | false ↦ us ]

      by_cases : {b c : Bool} {us vs : List Use} → b ≡ c → told i ≡ told j → us ≡ vs → by b (told i) us ≡ by c (told j) vs
      by_cases p q r = rw (p, q, r)

  pub uses_like : {es fs : List Entry} → Forall₂ (EntryLike S) es fs → uses S.left es ≡ uses S.right fs
  unfolding uses
  uses_like nil₂ = refl
  uses_like (cons₂ {a = a} {b = b} h k) =
      ap₂ ◌++◌ (ap (λ (ps : List Param). uses_of S.left (name_params ps) (keyed_in (entry_exprs a))) h.params ∙ uses_of_lem (name_params b.params) (keyed_in_lem (entry_exprs_lem h))) (uses_like k)

  pub a_key_kinds : Forall₂ (EntryLike S) S.left.entries S.right.entries → Alike S (check_key_kinds S.left) (check_key_kinds S.right)
  unfolding check_key_kinds
  a_key_kinds h = rw (uses_like h) (a_same (p_uses _ _))
