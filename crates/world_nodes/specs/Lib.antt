pub mod NodeWork
