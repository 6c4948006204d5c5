-- A session that is planned of a catalog which nothing refuses.
use Rattle.std.specs.Prelude.{◌≡◌, ℕ, ◌+◌, ◌^◌, ◌<◌, ◌≤◌, List, [], None, length, unwrap_or, All}
use Rattle.wire_bytes.specs.FirstFault.{first_fault}
use Rattle.sender_plan.specs.declared.params.Params.{Params}
use Rattle.sender_plan.specs.CatalogInstance.{CatalogItem, CatalogInstance, IsItem}
use Rattle.sender_plan.specs.Plan.{planned, plan_faults}
use Rattle.sender_plan.specs.Session.{Session, IsSession}

-- its location and its type may stand in an object's fields, and aren't too long for them together
pub record IsFitItem (item : CatalogItem) : Type 0 where
  pub texts : IsItem item
  pub short : length item.location + length (unwrap_or item.kind []) ≤ 16777216

-- its number has 32 bits, and its files are fit
pub record IsFit (instance : CatalogInstance) : Type 0 where
  pub small : instance.number < 2 ^ 32
  pub files : All IsFitItem instance.items

-- the session is a sound one, planned of this catalog with these bodies in the order of its names, and nothing refuses the plan
pub record IsPlanOf (instances : List CatalogInstance) (bodies : List (List ℕ)) (params : Params) (s : Session) : Type 0 where
  pub fit : All IsFit instances
  pub none : first_fault (plan_faults instances bodies params) ≡ None
  pub made : s ≡ planned instances bodies params
  pub sound : IsSession s
