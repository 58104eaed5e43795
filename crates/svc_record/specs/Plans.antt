-- What a plan says of each service.
use Rattle.std.specs.Prelude.{ℕ, Bool, true, false, not, ◌&&◌, ◌||◌, List, [], length, Option, Some, None, slice_get, nat_lt, bytes_eq}
use Rattle.std.specs.List.{list_any, list_all, range_with_len}
use Rattle.svc_base.specs.declared.settings.Setting.{Setting}
use Rattle.svc_record.specs.declared.plan.Plan.{Plan}
use Rattle.svc_record.specs.declared.plan.ServicePlan.{ServicePlan}
use Rattle.svc_graph.specs.declared.plan.EndpointPlan.{EndpointPlan}
use Rattle.svc_graph.specs.declared.plan.Kind.{Kind}
use Rattle.svc_graph.specs.declared.plan.Kind.TheVariants.{Plain, Notifying, Bootstrap}

-- how many services there are
abbrev pub service_count : Plan → ℕ
service_count p = length p.services

-- the numbers of the services
abbrev pub services : Plan → List ℕ
services p = range_with_len 0 (service_count p)

-- the service with this number
abbrev pub service : Plan → ℕ → Option ServicePlan
service p s = slice_get p.services s

-- the services that it depends on
abbrev pub depends : Plan → ℕ → List ℕ
depends p s = depends_of (service p s)
  where
    depends_of : Option ServicePlan → List ℕ
    depends_of (Some x) = x.depends
    depends_of None = []

-- the two kinds are equal
abbrev pub is_kind : Kind → Kind → Bool
is_kind Plain Plain = true
is_kind Notifying Notifying = true
is_kind Bootstrap Bootstrap = true
is_kind _ _ = false

-- s is a service of this kind
abbrev pub has_kind : Plan → Kind → ℕ → Bool
has_kind p kind s = kind_of (service p s)
  where
    kind_of : Option ServicePlan → Bool
    kind_of (Some x) = is_kind kind x.kind
    kind_of None = false

-- its endpoints
abbrev pub endpoints : Plan → ℕ → List EndpointPlan
endpoints p s = endpoints_of (service p s)
  where
    endpoints_of : Option ServicePlan → List EndpointPlan
    endpoints_of (Some x) = x.endpoints
    endpoints_of None = []

-- the numbers of a service's endpoints
abbrev pub endpoint_numbers : Plan → ℕ → List ℕ
endpoint_numbers p s = range_with_len 0 (length (endpoints p s))

-- endpoint i of s
abbrev pub endpoint : Plan → ℕ → ℕ → Option EndpointPlan
endpoint p s i = slice_get (endpoints p s) i

-- s has an endpoint i
abbrev pub is_endpoint : Plan → ℕ → ℕ → Bool
is_endpoint p s i = nat_lt i (length (endpoints p s))

-- the address of endpoint i of s
abbrev pub address : Plan → ℕ → ℕ → Option (List ℕ)
address p s i = address_of (endpoint p s i)
  where
    address_of : Option EndpointPlan → Option (List ℕ)
    address_of (Some x) = Some x.address
    address_of None = None

-- the endpoint is a Unix one
abbrev pub is_unix : Plan → ℕ → ℕ → Bool
is_unix p s i = unix_of (endpoint p s i)
  where
    unix_of : Option EndpointPlan → Bool
    unix_of (Some x) = x.unix
    unix_of None = false

-- the number of its filter, if it has one
abbrev pub filter_of : Plan → ℕ → ℕ → Option ℕ
filter_of p s i = in_endpoint (endpoint p s i)
  where
    in_endpoint : Option EndpointPlan → Option ℕ
    in_endpoint (Some x) = x.filter
    in_endpoint None = None

-- its options
abbrev pub options_of : Plan → ℕ → ℕ → List Setting
options_of p s i = in_endpoint (endpoint p s i)
  where
    in_endpoint : Option EndpointPlan → List Setting
    in_endpoint (Some x) = x.options
    in_endpoint None = []

-- both are an address, and the same one
abbrev pub same_address : Option (List ℕ) → Option (List ℕ) → Bool
same_address (Some a) (Some b) = bytes_eq a b
same_address _ _ = false

-- some endpoint with the address passes the test
abbrev pub any_with : Plan → Option (List ℕ) → (ℕ → ℕ → Bool) → Bool
any_with p a test = list_any (λ s. list_any (λ i. same_address (address p s i) a && test s i) (endpoint_numbers p s)) (services p)

-- each endpoint passes the test
abbrev pub each_endpoint : Plan → (ℕ → ℕ → Bool) → Bool
each_endpoint p test = list_all (λ s. list_all (test s) (endpoint_numbers p s)) (services p)

-- some text of the list is a
abbrev pub is_among : List ℕ → List (List ℕ) → Bool
is_among a texts = list_any (λ t. bytes_eq t a) texts

-- the service declares a list
abbrev pub declares_list : Plan → ℕ → Bool
declares_list p s = in_service (service p s)
  where
    is_list : Option (List (List ℕ)) → Bool
    is_list (Some texts) = true
    is_list None = false

    in_service : Option ServicePlan → Bool
    in_service (Some x) = is_list x.declared
    in_service None = false

-- the service declares a list with a in it
abbrev pub declares : Plan → ℕ → List ℕ → Bool
declares p s a = in_service (service p s)
  where
    in_list : Option (List (List ℕ)) → Bool
    in_list (Some texts) = is_among a texts
    in_list None = false

    in_service : Option ServicePlan → Bool
    in_service (Some x) = in_list x.declared
    in_service None = false

-- s declares a, or has an endpoint with this address
abbrev pub names : Plan → ℕ → List ℕ → Bool
names p s a = declares p s a || list_any (λ (e : EndpointPlan). bytes_eq e.address a) (endpoints p s)

-- every service declares a list, and no service names a
abbrev pub is_unclaimed : Plan → List ℕ → Bool
is_unclaimed p a = list_all (λ s. declares_list p s && not (names p s a)) (services p)
